-- Any two outcomes that a public function's contract admits are equal. Assumes nothing.
use mathlib.Core.Path.{sym, ap, ap₂, ◌∙◌}
use Rattle.bits.proofs.Fixed.{Fixed, FixedWith}
use Rattle.build.proofs.Told.{judged_tells, build_tells, handed_tells}
use Rattle.build.proofs.record.Record.new.Reads as new
use Rattle.build.proofs.record.Record.none.Reads as none
use Rattle.build.proofs.sources.RecordFromUplinkMacCommand.from.Reads as of_uplink
use Rattle.build.proofs.sources.RecordFromDownlinkMacCommand.from.Reads as of_downlink
use Rattle.build.proofs.sources.RecordFromMacCommandCreator.from.Reads as of_creator
use Rattle.build.proofs.record.Record.judge.Reads as judge
use Rattle.build.proofs.record.Record.write.Reads as write
use Rattle.build.proofs.record.Record.pack.Reads as pack
use Rattle.build.proofs.handed.record_at.Reads as record_at
use Rattle.build.proofs.record.RecordHolds.record.Reads as record_held
use Rattle.build.proofs.packed.ArrayU88Holds.record.Reads as slot_held
use Rattle.build.proofs.list.list_len.Reads as list_len
use Rattle.build.proofs.list.build_list.Reads as build_list
use Rattle.build.proofs.packed.mac_commands_len.Reads as mac_commands_len
use Rattle.build.proofs.packed.build_mac_commands.Reads as build_mac_commands

none_one : Fixed none.Post
none_one _ _ _ _ _ _ p q = p ∙ sym q

new_one : Fixed new.Post
new_one _ _ _ _ _ _ p q = p ∙ sym q

of_uplink_one : Fixed of_uplink.Post
of_uplink_one _ _ _ _ _ _ p q = p ∙ sym q

of_downlink_one : Fixed of_downlink.Post
of_downlink_one _ _ _ _ _ _ p q = p ∙ sym q

judge_one : Fixed judge.Post
judge_one _ _ _ _ _ _ p q = judged_tells (p ∙ sym q)

write_one : FixedWith (λ s. s.1.0.now) write.Post
write_one _ _ _ _ _ _ p q = p ∙ sym q

pack_one : FixedWith (λ s. s.1.0.now) pack.Post
pack_one _ _ _ _ _ _ p q = ap (λ o. (tt, o)) (p ∙ sym q)

record_at_one : Fixed record_at.Post
record_at_one _ _ _ _ _ _ p q = handed_tells (p ∙ sym q)

mac_commands_len_one : Fixed mac_commands_len.Post
mac_commands_len_one _ _ _ _ _ _ p q = build_tells (p ∙ sym q)

build_mac_commands_one : FixedWith (λ s. s.1.1.0.now) build_mac_commands.Post
build_mac_commands_one _ _ _ _ _ _ p q =
    ap₂ (λ r o. (r, o)) (build_tells (ap (λ x. x.0) (p ∙ sym q))) (ap (λ x. x.1) (p ∙ sym q))

record_held_one : Fixed record_held.Post
record_held_one _ _ _ _ _ _ p q = p ∙ sym q

slot_held_one : Fixed slot_held.Post
slot_held_one _ _ _ _ _ _ p q = p ∙ sym q

list_len_one : (A : _) (laws : _) (holds : _) (holds-dict : _) → Fixed (list_len.Post A laws holds holds-dict)
list_len_one A laws holds holds-dict _ _ _ _ _ _ p q = build_tells (p.0 ∙ sym q.0)

build_list_one : (A : _) (laws : _) (holds : _) (holds-dict : _) → FixedWith (λ s. s.1.1.1.0.now) (build_list.Post A laws holds holds-dict)
build_list_one A laws holds holds-dict _ _ _ _ _ _ p q =
    ap₂ (λ r o. (r, o)) (build_tells (ap (λ x. x.0) (p ∙ sym q))) (ap (λ x. x.1) (p ∙ sym q))

of_creator_one : (A : _) (laws : _) (copies : _) (kinds : _) (kinds-dict : _) (clones : _) (clones-dict : _) → Fixed (of_creator.Post A laws copies kinds kinds-dict clones clones-dict)
of_creator_one A laws copies kinds kinds-dict clones clones-dict _ _ _ _ _ _ p q = p ∙ sym q
