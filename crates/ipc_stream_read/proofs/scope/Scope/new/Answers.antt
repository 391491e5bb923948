use Rattle.std.proofs.Common.{◌∙◌, ap}
use Rattle.ipc_dict_read.specs.DictionariesState.{DictionariesState}
use Rattle.ipc_stream_read.specs.Alone.{are_alone}
use Rattle.ipc_stream_read.proofs.Dictionaries.{schema_alone}
use Rattle.ipc_stream_read.proofs.scope.Scope.new.Goals as goal

pub invariant_of-result-clause-alone : goal.invariant_of-result-clause-alone
invariant_of-result-clause-alone c =
    ap (λ (d : DictionariesState). are_alone d.columns) c.in_ok-dictionaries.ensures.none
    ∙ schema_alone c.args.limits c.args.schema c.requires
