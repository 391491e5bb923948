-- The bytes of messages and of segments, as they are gathered.
use Rattle.std.proofs.Common.{◌≡◌, ◌∙◌, sym, ap, ℕ, ◌+◌, ◌<◌, List, [], ◌∷◌, ◌++◌, length, get_or, take, append_assoc}
use Rattle.std.proofs.lemmas.List.{append-nil}
use Rattle.ipc_encode.specs.declared.segments.Segment.{Segment}
use Rattle.ipc_encode.specs.Segments.{bytes_of_segments, segment_bytes}
use Rattle.ipc_stream.specs.declared.message.Message.{Message}
use Rattle.ipc_stream.specs.declared.gathering.Gathered.{Gathered}
use Rattle.ipc_stream.specs.Messages.{all_bytes, gathered_bytes}
use Rattle.ipc_encode.proofs.SegmentColumns.{joined_both, joined_next}
use Rattle.ipc_stream.proofs.SentBytes.{first_and_next}

-- one segment more, behind which nothing is joined
pub joined_ended : (segments now : List Segment) (s : Segment) (bytes joined : List ℕ) → now ≡ segments ++ s ∷ [] → segment_bytes s ≡ bytes
    → joined ≡ [] → bytes_of_segments now ++ joined ≡ bytes_of_segments segments ++ bytes
joined_ended segments now s bytes joined is same none =
    (λ i. bytes_of_segments (is i) ++ none i) ∙ append-nil (bytes_of_segments (segments ++ s ∷ [])) ∙ joined_both segments (s ∷ [])
    ∙ ap (λ (z : List ℕ). bytes_of_segments segments ++ z) (append-nil (segment_bytes s) ∙ same)

-- the bytes of segments behind which nothing is joined
pub ended_bytes : (gathered : Gathered) → gathered.joined.items ≡ [] → gathered_bytes gathered ≡ bytes_of_segments gathered.segments.items
ended_bytes gathered none =
    let segments = bytes_of_segments gathered.segments.items in ap (λ (z : List ℕ). segments ++ z) none ∙ append-nil segments

-- one message more
pub gathered_message : (start g0 g1 g2 front body : List ℕ) (ms : List Message) (i : ℕ) (m : Message) → g0 ≡ start ++ all_bytes (take i ms)
    → i < length ms → m ≡ get_or ms i m → front ≡ m.front.items → body ≡ m.body.items → g1 ≡ g0 ++ front → g2 ≡ g1 ++ body
    → g2 ≡ start ++ all_bytes (take (i + 1) ms)
gathered_message start g0 g1 g2 front body ms i m so_far inside is is_front is_body first second =
    let before = all_bytes (take i ms) in
    let here : ((start ++ before) ++ front) ++ body ≡ start ++ (before ++ (front ++ body)) = simp append_assoc in
    second ∙ ap (λ (z : List ℕ). z ++ body) (first ∙ ap (λ (z : List ℕ). z ++ front) so_far) ∙ here
    ∙ ap (λ (z : List ℕ). start ++ z) ((λ j. before ++ (is_front j ++ is_body j)) ∙ sym (first_and_next ms i m inside is))

-- one segment more
pub gathered_segment : (start g0 g1 bytes : List ℕ) (segments : List Segment) (i : ℕ) (s : Segment)
    → g0 ≡ start ++ bytes_of_segments (take i segments) → i < length segments → s ≡ get_or segments i s → bytes ≡ segment_bytes s
    → g1 ≡ g0 ++ bytes → g1 ≡ start ++ bytes_of_segments (take (i + 1) segments)
gathered_segment start g0 g1 bytes segments i s so_far inside is same next =
    let before = bytes_of_segments (take i segments) in
    next ∙ (λ j. so_far j ++ same j) ∙ append_assoc start before (segment_bytes s)
    ∙ ap (λ (z : List ℕ). start ++ z) (sym (joined_next segments i s inside is))
