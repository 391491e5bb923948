use Rattle.std.proofs.Common.{refl, sym, subst, List, [], ◌∷◌, ◌++◌}
use Rattle.std.proofs.lemmas.Result.{err_from_is_err_and}
use Rattle.ipc_encode.specs.Built.{StoresRows}
use Rattle.ipc_encode.specs.Numbers.{known_indices}
use Rattle.ipc_dict.specs.Noting.{place_of_value}
use Rattle.ipc_dict.specs.declared.entry.TallyEntry.{TallyEntry}
use Rattle.ipc_stream.proofs.HeldRows.{held_row, refused_row}
use Rattle.ipc_stream.proofs.HeldTallies.{note_keeps, note_refused, rows_cut, rows_kept, tally_cut, tally_next}
use Rattle.ipc_stream.proofs.pending_batch.PendingBatch.take.Goals as goal

pub returns-in_err-note-clause-refused : goal.returns-in_err-note-clause-refused
returns-in_err-note-clause-refused c = λ limits s b well h.
    let p = err_from_is_err_and c.from_residual.result c.from_residual.ensures.1 in
    rw (p.1, p.2) (note_refused limits s b c.args.row.now c.args.self.now.tally _ h.tally c.in_err-note.ensures.full
    c.in_err-note.ensures.over c.in_err-note.ensures.before c.in_err-note.ensures.only)

pub returns-in_err-note-clause-kept : goal.returns-in_err-note-clause-kept
returns-in_err-note-clause-kept c = λ limits s b well h.
    let p = err_from_is_err_and c.from_residual.result c.from_residual.ensures.1 in
    rw (p.1, p.2) (λ other.
    let still = note_keeps limits s.fields b.rows c.args.self.now.tally c.note.new.self c.in_err-note.field-0.0 h.tally
    c.in_err-note.ensures.unchanged c.in_err-note.ensures.as_before c.in_err-note.ensures.before c.in_err-note.ensures.only other in
    record {
      tally = still;
      rows = h.rows;
      pairs = h.pairs;
      accepted = h.accepted;
    })

pub returns-in-Err-clause-refused : goal.returns-in-Err-clause-refused
returns-in-Err-clause-refused c = λ limits s b well h.
    let builder = c.args.self.now.builder in
    let row = c.args.row.now in
    let next = tally_next limits s.fields b.rows row c.args.self.now.tally c.note.new.self h.tally c.in_ok-note.ensures.noted in
    let rows =
    subst (λ (es : List TallyEntry). StoresRows (known_indices (place_of_value es)) limits s.fields b.rows builder) (sym next.counted)
    (rows_kept limits s.fields b.rows row builder well.each h.rows) in
    refused_row limits s b row _ (c.in-Err.ensures.refused limits s.fields b.rows rows)

pub returns-in-Err-clause-kept : goal.returns-in-Err-clause-kept
returns-in-Err-clause-kept c = λ limits s b well h other.
    let fields = s.fields in
    let builder = c.args.self.now.builder in
    let row = c.args.row.now in
    let next = tally_next limits fields b.rows row c.args.self.now.tally c.note.new.self h.tally c.in_ok-note.ensures.noted in
    let rows =
    subst (λ (es : List TallyEntry). StoresRows (known_indices (place_of_value es)) limits fields b.rows builder) (sym next.counted)
    (rows_kept limits fields b.rows row builder well.each h.rows) in
    let stays = c.in-Err.ensures.kept limits fields b.rows rows other in
    record {
      tally = tally_cut limits fields b.rows row c.args.self.now.tally c.note.new.self c.cut.new.self h.tally
          c.in_ok-note.ensures.noted c.cut.ensures;
      rows = rows_cut limits fields b.rows row c.push.new.self well.each
          (subst (λ (es : List TallyEntry). StoresRows (known_indices (place_of_value es)) limits fields b.rows c.push.new.self)
          next.counted stays);
      pairs = h.pairs;
      accepted = h.accepted;
    }

pub returns-in-Ok-clause-taken : goal.returns-in-Ok-clause-taken
returns-in-Ok-clause-taken c = λ limits s b well h.
    let fields = s.fields in
    let old = c.args.self.now in
    let row = c.args.row.now in
    let noted = c.note.new.self in
    let next = tally_next limits fields b.rows row old.tally noted h.tally c.in_ok-note.ensures.noted in
    let rows =
    subst (λ (es : List TallyEntry). StoresRows (known_indices (place_of_value es)) limits fields b.rows old.builder) (sym next.counted)
    (rows_kept limits fields b.rows row old.builder well.each h.rows) in
    let stored = c.in-Ok.ensures.pushed limits fields b.rows rows in
    record {
      fits = λ fit. held_row limits s b row old _ h fit stored.within next c.note.ensures.fits c.note.ensures.within stored refl;
      before = tally_cut limits fields b.rows row old.tally noted (record noted { entries = noted.before }) h.tally
          c.in_ok-note.ensures.noted refl;
      rows = subst (λ (es : List TallyEntry). StoresRows (known_indices (place_of_value es)) limits fields (b.rows ++ row ∷ [])
          c.push.new.self) next.counted stored;
      pairs = h.pairs;
      accepted = h.accepted;
    }
