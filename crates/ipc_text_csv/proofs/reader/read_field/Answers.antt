use Rattle.std.proofs.Common.{◌≡◌, ◌≢◌, ◌∙◌, Some, ap, sym, subst, rules, length}
use Rattle.ipc_model.specs.Fits.{FitsOwnType}
use Rattle.ipc_model.specs.declared.schema.Field.{out-Field}
use Rattle.ipc_model.specs.declared.value.Value.{out-Value, Null}
use Rattle.ipc_text_csv.specs.CsvRows.{StandsFor}
use Rattle.ipc_text_csv.specs.RowCsv.{null_text}
use Rattle.ipc_text_csv.proofs.CsvFits.{out_same, own_of_fits, reads_own, read_both, read_any}
use Rattle.ipc_text_csv.proofs.NullText.{null_only}
use Rattle.ipc_text_csv.proofs.reader.read_field.Goals as goal

pub returns-then-eq-clause-only : goal.returns-then-eq-clause-only
unfolding out-Value denote.Hole.Carrier.out
returns-then-eq-clause-only c h =
    let e : c.args.text.now ≡ null_text c.args.dialect = search rules in
    let is = sym (c.put_null.ensures.put h) in
    let s : StandsFor c.args.dialect (out-Field c.args.field.now).kind c.args.text.now (out-Value Null) = ap Some (sym e) in
    let f = out-Field c.args.field.now in
    reads_own c.args.dialect c.args.field.now c.args.text.now c.put_null.new.place
    (subst (λ v. FitsOwnType f.kind f.nullable (length f.children) (out-Value v)) is (c.put_null.ensures.own h))
    (subst (λ v. StandsFor c.args.dialect (out-Field c.args.field.now).kind c.args.text.now (out-Value v)) is s)

pub returns-then-eq-clause-all : goal.returns-then-eq-clause-all
unfolding out-Value denote.Hole.Carrier.out
returns-then-eq-clause-all c flat v h =
    let f = out-Field c.args.field.now in
    let e : c.args.text.now ≡ null_text c.args.dialect = search rules in
    let own = own_of_fits c.args.field.now v h.0 in
    let n = null_only c.args.dialect f.kind f.nullable (length f.children) (out-Value v) own
    (subst (λ t. StandsFor c.args.dialect f.kind t (out-Value v)) e h.1) in
    let null : Null ≡ v = sym (out_same v Null n) in
    let read = c.put_null.ensures.all flat (subst (λ w. FitsOwnType f.kind f.nullable (length f.children) w) n own) in
    (read, c.put_null.ensures.put read ∙ null)

pub returns-clause-only : goal.returns-clause-only
returns-clause-only c =
    read_both c.args.dialect c.args.field.now c.args.text.now c.read_own.new.place c.read_own.result c.read_own.ensures.own
    c.read_own.ensures.stands

pub returns-clause-all : goal.returns-clause-all
returns-clause-all c =
    let other : c.args.text.now ≢ null_text c.args.dialect = λ e. let no = c.if-eq.ensures in absurd (search (rules, e, no)) in
    read_any c.args.dialect c.args.field.now c.args.text.now c.read_own.new.place c.read_own.result other c.read_own.ensures.all
