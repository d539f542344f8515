-- Any two outcomes that a public function's contract admits are equal: the result, and what stands behind a `&mut` at exit. Of a slice that is handed
-- back, or held by an iterator, that is all of it. Assumes nothing.
use mathlib.Core.Path.{sym, ap, ap₂, ◌∙◌}
use Rattle.bits.proofs.Fixed.{Fixed, FixedWith}
use Rattle.walk.proofs.Told.{step_tells}
use Rattle.build.proofs.Told.{build_tells, handed_tells}
use Rattle.lent.proofs.iterator.MacCommandIterator.new.Reads as new
use Rattle.lent.proofs.iterator.MacCommandIterator.next.Reads as next
use Rattle.lent.proofs.iterator.MacCommandIterator.next_record.Reads as next_record
use Rattle.lent.proofs.iterator.MacCommandIterator.data.Reads as stream
use Rattle.lent.proofs.iterator.MacCommandIterator.index.Reads as index
use Rattle.lent.proofs.iterator.parse_uplink_mac_commands.Reads as parse_uplink
use Rattle.lent.proofs.iterator.parse_downlink_mac_commands.Reads as parse_downlink
use Rattle.lent.proofs.iterator.nth_step.Reads as nth_step
use Rattle.lent.proofs.records.records_len.Reads as records_len
use Rattle.lent.proofs.records.build_records.Reads as build_records
use Rattle.lent.proofs.records.build_four.Reads as build_four

new_one : Fixed new.Post
new_one _ _ _ _ _ _ p q = p ∙ sym q

next_one : FixedWith (λ s. s.0.now) next.Post
next_one _ _ _ _ _ _ p q =
    ap₂ (λ r o. (r, o)) (step_tells (ap (λ x. x.0) (p ∙ sym q))) (ap (λ x. x.1) (p ∙ sym q))

next_record_one : FixedWith (λ s. s.0.now) next_record.Post
next_record_one _ _ _ _ _ _ p q =
    ap₂ (λ r o. (r, o)) (handed_tells (ap (λ x. x.0) (p ∙ sym q))) (ap (λ x. x.1) (p ∙ sym q))

stream_one : Fixed stream.Post
stream_one _ _ _ _ _ _ p q = p ∙ sym q

index_one : Fixed index.Post
index_one _ _ _ _ _ _ p q = p ∙ sym q

parse_uplink_one : Fixed parse_uplink.Post
parse_uplink_one _ _ _ _ _ _ p q = p ∙ sym q

parse_downlink_one : Fixed parse_downlink.Post
parse_downlink_one _ _ _ _ _ _ p q = p ∙ sym q

nth_step_one : Fixed nth_step.Post
nth_step_one _ _ _ _ _ _ p q = step_tells (p ∙ sym q)

records_len_one : Fixed records_len.Post
records_len_one _ _ _ _ _ _ p q = build_tells (p ∙ sym q)

build_records_one : FixedWith (λ s. s.1.1.0.now) build_records.Post
build_records_one _ _ _ _ _ _ p q =
    ap₂ (λ r o. (r, o)) (build_tells (ap (λ x. x.0) (p ∙ sym q))) (ap (λ x. x.1) (p ∙ sym q))

build_four_one : FixedWith (λ s. s.1.1.0.now) build_four.Post
build_four_one _ _ _ _ _ _ p q =
    ap₂ (λ r o. (r, o)) (build_tells (ap (λ x. x.0) (p ∙ sym q))) (ap (λ x. x.1) (p ∙ sym q))
