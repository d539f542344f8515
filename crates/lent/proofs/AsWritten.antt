-- Of each public function's contract, read as it is written, over any memory, any two outcomes are equal: the result, and what stands behind a `&mut`
-- at exit. Of a slice that is handed back, or held by an iterator, that is all of it. Determined.antt says so of the plain reading. Assumes nothing.
use mathlib.Core.Path.{sym, ap, ap₂, ◌∙◌}
use Rattle.walk.proofs.Told.{step_tells}
use Rattle.build.proofs.Told.{build_tells, handed_tells}
use Rattle.lent.proofs.Fixing.{Fixed, FixedWith, fixes}
use Rattle.lent.specs.contracts.iterator.MacCommandIterator.new.{ended as new_ended, clauses as new_clauses}
use Rattle.lent.specs.contracts.iterator.MacCommandIterator.next.{ended as next_ended, clauses as next_clauses}
use Rattle.lent.specs.contracts.iterator.MacCommandIterator.next_record.{ended as next_record_ended, clauses as next_record_clauses}
use Rattle.lent.specs.contracts.iterator.MacCommandIterator.data.{ended as stream_ended, clauses as stream_clauses}
use Rattle.lent.specs.contracts.iterator.MacCommandIterator.index.{ended as index_ended, clauses as index_clauses}
use Rattle.lent.specs.contracts.iterator.parse_uplink_mac_commands.{ended as parse_uplink_ended, clauses as parse_uplink_clauses}
use Rattle.lent.specs.contracts.iterator.parse_downlink_mac_commands.{ended as parse_downlink_ended, clauses as parse_downlink_clauses}
use Rattle.lent.specs.contracts.iterator.nth_step.{ended as nth_step_ended, clauses as nth_step_clauses}
use Rattle.lent.specs.contracts.records.records_len.{ended as records_len_ended, clauses as records_len_clauses}
use Rattle.lent.specs.contracts.records.build_records.{ended as build_records_ended, clauses as build_records_clauses}
use Rattle.lent.specs.contracts.records.build_four.{ended as build_four_ended, clauses as build_four_clauses}

new_one : Fixed new_ended (λ M 𝓤 𝓛. new_clauses 𝓛)
new_one _ 𝓤 𝓛 _ _ _ _ _ _ _ _ _ = fixes 𝓤 (λ p q. p ∙ sym q)

next_one : FixedWith next_ended (λ M 𝓤 𝓛. next_clauses 𝓛) (λ κs e. e.0.now)
next_one _ 𝓤 𝓛 _ _ _ _ _ _ _ _ _ = fixes 𝓤 (λ p q. ap₂ (λ r o. (r, o)) (step_tells (ap (λ x. x.0) (p ∙ sym q))) (ap (λ x. x.1) (p ∙ sym q)))

next_record_one : FixedWith next_record_ended (λ M 𝓤 𝓛. next_record_clauses 𝓛) (λ κs e. e.0.now)
next_record_one _ 𝓤 𝓛 _ _ _ _ _ _ _ _ _ = fixes 𝓤 (λ p q. ap₂ (λ r o. (r, o)) (handed_tells (ap (λ x. x.0) (p ∙ sym q))) (ap (λ x. x.1) (p ∙ sym q)))

stream_one : Fixed stream_ended (λ M 𝓤 𝓛. stream_clauses 𝓛)
stream_one _ 𝓤 𝓛 _ _ _ _ _ _ _ _ _ = fixes 𝓤 (λ p q. p ∙ sym q)

index_one : Fixed index_ended (λ M 𝓤 𝓛. index_clauses 𝓛)
index_one _ 𝓤 𝓛 _ _ _ _ _ _ _ _ _ = fixes 𝓤 (λ p q. p ∙ sym q)

parse_uplink_one : Fixed parse_uplink_ended (λ M 𝓤 𝓛. parse_uplink_clauses 𝓛)
parse_uplink_one _ 𝓤 𝓛 _ _ _ _ _ _ _ _ _ = fixes 𝓤 (λ p q. p ∙ sym q)

parse_downlink_one : Fixed parse_downlink_ended (λ M 𝓤 𝓛. parse_downlink_clauses 𝓛)
parse_downlink_one _ 𝓤 𝓛 _ _ _ _ _ _ _ _ _ = fixes 𝓤 (λ p q. p ∙ sym q)

nth_step_one : Fixed nth_step_ended (λ M 𝓤 𝓛. nth_step_clauses 𝓛)
nth_step_one _ 𝓤 𝓛 _ _ _ _ _ _ _ _ _ = fixes 𝓤 (λ p q. step_tells (p ∙ sym q))

records_len_one : Fixed records_len_ended (λ M 𝓤 𝓛. records_len_clauses 𝓛)
records_len_one _ 𝓤 𝓛 _ _ _ _ _ _ _ _ _ = fixes 𝓤 (λ p q. build_tells (p ∙ sym q))

build_records_one : FixedWith build_records_ended (λ M 𝓤 𝓛. build_records_clauses 𝓛) (λ κs e. e.1.1.0.now)
build_records_one _ 𝓤 𝓛 _ _ _ _ _ _ _ _ _ = fixes 𝓤 (λ p q. ap₂ (λ r o. (r, o)) (build_tells (ap (λ x. x.0) (p ∙ sym q))) (ap (λ x. x.1) (p ∙ sym q)))

build_four_one : FixedWith build_four_ended (λ M 𝓤 𝓛. build_four_clauses 𝓛) (λ κs e. e.1.1.0.now)
build_four_one _ 𝓤 𝓛 _ _ _ _ _ _ _ _ _ = fixes 𝓤 (λ p q. ap₂ (λ r o. (r, o)) (build_tells (ap (λ x. x.0) (p ∙ sym q))) (ap (λ x. x.1) (p ∙ sym q)))
