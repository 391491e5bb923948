-- What a plan decides for each dictionary (Arrow Columnar Format, "Dictionary Messages").
use Rattle.std.specs.Prelude.{◌≡◌, ℕ, ℤ, List, [], ◌∷◌, ◌++◌, map, Option, Some, None, option_map}
use Rattle.std.specs.Prelude.{◌+◌, ◌-◌, ◌^◌, min, slice_get, Contains, IsSome, if◌then◌else◌}
use Rattle.ipc_dict.specs.Noting.{values_noted_for, place_of_value}
use Rattle.ipc_encode.specs.Numbers.{number_or}
use Rattle.std.specs.Ordering.{int_eq}
use Rattle.ipc_model.specs.declared.value.Value.{Value}
use Rattle.ipc_dict.specs.declared.entry.TallyEntry.{TallyEntry}
use Rattle.ipc_dict.specs.declared.kept.KeptEntry.{KeptEntry}
use Rattle.ipc_dict.specs.Distinct.{first_index}

-- each value is first found in `known` at its number in `to`
abbrev pub AreFirstIndices : List Value → List Value → List ℕ → Type 0
AreFirstIndices known values to = map (λ v. first_index v known) values ≡ map (λ i. Some i) to

-- one of the values is not in `known`
abbrev pub LacksValue : List Value → List Value → Type 0
LacksValue known values = (v : Value) × (Contains values v × (first_index v known ≡ None))

-- the dictionary was sent, and each value of the batch is in it at its number; or it is sent with
-- this batch, since it was not sent before or lacks a value
abbrev pub IsSettled : Option (List Value) → List Value → Option (List ℕ) → Type 0
IsSettled (Some known) values (Some to) = AreFirstIndices known values to
IsSettled (Some known) values None = LacksValue known values
IsSettled None values (Some to) = ⊥
IsSettled None values None = Unit {0}

-- the index of a value with this place among the batch's values: its number among those sent
-- before, or the place if the dictionary is sent
abbrev pub number_at : Option ℕ → Option (List ℕ) → Option ℕ
number_at None numbers = None
number_at (Some i) None = Some i
number_at (Some i) (Some to) = slice_get to i

-- the dictionary's values after the batch was sent
abbrev pub values_after : Option (List Value) → List Value → Option (List ℕ) → Option (List Value)
values_after sent values (Some to) = sent
values_after sent values None = Some values

-- how often the dictionary was sent after the batch was sent, at most 2^64 - 1 times
abbrev pub times_sent : ℕ → Option (List ℕ) → ℕ
times_sent n (Some to) = n
times_sent n None = min (n + 1) (2 ^ 64 - 1)

-- the number, among the values sent before, of the value with number i in the batch; none if the
-- dictionary is sent again
abbrev pub kept_number : Option (List ℕ) → ℕ → Option ℕ
kept_number None i = None
kept_number (Some to) i = slice_get to i

-- the dictionary's id and values, as rows of one column, if the dictionary is sent; nothing
-- otherwise
abbrev pub own_send : TallyEntry → Option (List ℕ) → List (ℤ × List (List Value))
own_send n (Some to) = []
own_send n None = (n.id, map (λ v. v ∷ []) n.values) ∷ []

-- ---- all dictionaries, in one order

-- each dictionary is settled (`IsSettled`), index by index
abbrev pub AllSettled : List KeptEntry → List TallyEntry → List (Option (List ℕ)) → Type 0
AllSettled [] [] [] = Unit {0}
AllSettled (s ∷ ss) (n ∷ ns) (o ∷ os) = IsSettled s.values n.values o × AllSettled ss ns os
AllSettled _ _ _ = ⊥

-- the index of a value in the dictionary with the id
abbrev pub index : List TallyEntry → List (Option (List ℕ)) → ℤ → Value → Option ℕ
index [] os id v = None
index (n ∷ ns) [] id v = None
index (n ∷ ns) (o ∷ os) id v =
    if int_eq n.id id then number_at (first_index v n.values) o else index ns os id v

-- the number of a value among those sent before, for the dictionary with the id and its number in
-- the batch
abbrev pub number : List TallyEntry → List (Option (List ℕ)) → ℤ → ℕ → Option ℕ
number [] os id i = None
number (n ∷ ns) [] id i = None
number (n ∷ ns) (o ∷ os) id i = if int_eq n.id id then kept_number o i else number ns os id i

-- the dictionaries that are sent, each with its id
abbrev pub sends_of : List TallyEntry → List (Option (List ℕ)) → List (ℤ × List (List Value))
sends_of [] os = []
sends_of (n ∷ ns) [] = []
sends_of (n ∷ ns) (o ∷ os) = own_send n o ++ sends_of ns os

-- the values sent of each dictionary after the batch was sent
abbrev pub after_all : List KeptEntry → List TallyEntry → List (Option (List ℕ)) → List KeptEntry
after_all [] ns os = []
after_all (s ∷ ss) [] os = s ∷ ss
after_all (s ∷ ss) (n ∷ ns) [] = s ∷ ss
after_all (s ∷ ss) (n ∷ ns) (o ∷ os) =
    (record s { values = values_after s.values n.values o; sent = times_sent s.sent o })
    ∷ after_all ss ns os

-- the values sent for the id, if any
abbrev pub sent_for : List KeptEntry → ℤ → Option (List Value)
sent_for [] id = None
sent_for (s ∷ ss) id = if int_eq s.id id then s.values else sent_for ss id

-- the values of a dictionary, each as a row of one column, if it was sent
abbrev pub own_sent : KeptEntry → Option (List (List Value))
own_sent s = option_map (λ vs. map (λ v. v ∷ []) vs) s.values

-- how often a dictionary with the id was sent
abbrev pub times_sent_for : List KeptEntry → ℤ → ℕ
times_sent_for [] id = 0
times_sent_for (s ∷ ss) id = if int_eq s.id id then s.sent else times_sent_for ss id

-- the values of the last dictionary with the id that was sent, as rows of one column, if any
abbrev pub last_sent : List KeptEntry → ℤ → Option (List (List Value))
last_sent [] id = None
last_sent (s ∷ ss) id = if int_eq s.id id then own_sent s else last_sent ss id

-- each index that a plan gives refers to its value in what is sent once the batch was
abbrev pub FindsAll : List KeptEntry → List TallyEntry → List (Option (List ℕ)) → Type 0
FindsAll ss ns os = (id : ℤ) (v : Value) (i : ℕ) → index ns os id v ≡ Some i
    → (now : List Value)
    × ((sent_for (after_all ss ns os) id ≡ Some now) × (slice_get now i ≡ Some v))

-- each place that a tally gives a value, replaced by the plan's number for it, is the value's place
-- in what is sent once the batch was
abbrev pub FindsNoted : List KeptEntry → List TallyEntry → List (Option (List ℕ)) → Type 0
FindsNoted ss ns os = (id : ℤ) (v : Value) (i : ℕ) → place_of_value ns id v ≡ Some i
    → (now : List Value)
    × ((sent_for (after_all ss ns os) id ≡ Some now)
    × (slice_get now (number_or (number ns os id i) i) ≡ Some v))

-- each value of the batch has an index
abbrev pub KnowsAll : List TallyEntry → List (Option (List ℕ)) → Type 0
KnowsAll ns os = (id : ℤ) (v : Value) (xs : List Value) → values_noted_for ns id ≡ Some xs
    → Contains xs v
    → IsSome (index ns os id v)
