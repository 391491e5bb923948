-- What a tally does when it counts values (Arrow Columnar Format, "Dictionary-encoded Layout").
use Rattle.std.specs.Prelude.{◌≡◌, true, ◌⊎◌, Result, Err, OnOk, IfErr}
use Rattle.ipc_model.specs.declared.fault.WriteFault.TheVariants as w
use Rattle.ipc_encode.specs.declared.fault.PushFault.{PushFault}
use Rattle.ipc_encode.specs.declared.fault.PushFault.TheVariants as push
use Rattle.ipc_encode.specs.Faults.{write_fault}
use Rattle.ipc_dict.specs.Noting.{note_all, AllFit, IsIndexOverflow}
use Rattle.ipc_dict.specs.Pairs.{Pairs}
use Rattle.ipc_dict.specs.SchemaIds.{tally_ids}
use Rattle.ipc_dict.specs.TallyState.{TallyState}
use Rattle.ipc_dict.specs.Within.{AllWithin, IsOfLimits, IsOverLimit}

-- a call counts the values of these pairs: the tally is `old` before it and `new` after it, and the
-- call returns `result`
pub record NotesPairs (old : TallyState) (pairs : Pairs) (new : TallyState)
    (result : Result Unit PushFault) : Type 0 where
  -- each distinct value has an entry, in order of first appearance
  pub noted : OnOk result
      (new ≡ record old { entries = note_all old.entries pairs; before = old.entries })
  -- the fields, the limits and the ids never change, whatever the result is
  pub fields : new.fields ≡ old.fields
  pub limits : new.limits ≡ old.limits
  pub ids : tally_ids new.entries ≡ tally_ids old.entries
  -- index types can address the values of their dictionary ("Dictionary-encoded Layout")
  pub fits : AllFit new.entries
  -- each dictionary is within the limits, as the one column of its message ("Dictionary Messages")
  pub within : AllWithin new.limits new.fields new.entries
  -- after W7 the tally is as before the call, and no value came with it
  pub unchanged : IfErr result
      (λ fault. write_fault fault ≡ w.DictionaryFull → new ≡ record old { before = old.entries })
  -- after W6 and W8 too
  pub as_before : IfErr result
      (λ fault. IsOfLimits (write_fault fault) → new ≡ record old { before = old.entries })
  -- W7 comes only if a dictionary would have more values than an index type can address
  pub full : IfErr result (λ fault. write_fault fault ≡ w.DictionaryFull
      → IsIndexOverflow (note_all old.entries pairs))
  -- W6 and W8 come only if a dictionary's column would exceed the limits ("Array lengths")
  pub over : IfErr result (λ fault. IsOfLimits (write_fault fault)
      → IsOverLimit old.limits old.fields (note_all old.entries pairs) (write_fault fault))
  -- after W11 the tally has failed
  pub failed : IfErr result (λ fault. write_fault fault ≡ w.OutOfMemory → new.failed ≡ true)
  -- a tally that has failed returns W10
  pub refused : old.failed ≡ true → result ≡ Err push.Failed
  -- it never works again
  pub still_failed : old.failed ≡ true → new.failed ≡ true
  -- W10 comes only from a tally that has failed
  pub before : IfErr result (λ fault. write_fault fault ≡ w.Failed → old.failed ≡ true)
  -- every error is W7, W6, W8, W11 or W10
  pub only : IfErr result (λ fault. ((write_fault fault ≡ w.DictionaryFull)
      ⊎ IsOfLimits (write_fault fault))
      ⊎ ((write_fault fault ≡ w.OutOfMemory) ⊎ (write_fault fault ≡ w.Failed)))
