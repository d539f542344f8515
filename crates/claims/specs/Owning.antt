-- Each byte has one owner (RULES: D3a to D3c), and where steps lead (W8), said of what the public entries hand out.
use Rattle.std.specs.Prelude.{ℕ, ◌+◌, ◌≤◌, ◌<◌, List, [], ◌∷◌, ◌++◌, ◌≡◌, length, take, drop}
use Rattle.std.specs.Borrow.{Bor, MutBor}
use Rattle.table.specs.Answers.{Answer, given}
use Rattle.table.specs.Table.{length_of}
use Rattle.table.specs.declared.rules.Rules.{Rules}
use Rattle.payloads.specs.Commands.{sent_up, sent_down}
use Rattle.payloads.specs.declared.uplink.UplinkMacCommand.{UplinkMacCommand}
use Rattle.payloads.specs.declared.downlink.DownlinkMacCommand.{DownlinkMacCommand}
use Rattle.walk.specs.Ownership.{offset_of, Ends}
use Rattle.walk.specs.Part.{shown, part_of, empty_front}
use Rattle.walk.specs.Step.{Found, command, Heading, first_of, found_at, in_numbers, step_at, tally_from}
use Rattle.walk.specs.Told.{told_step, told_uplink_step, told_downlink_step, told_walk}
use Rattle.walk.specs.Walk.{Rule, Cmd, Ending, place_of, Walk, WellFormed, encode, size, walk_from, walk_of}
use Rattle.walk.specs.declared.command.CommandStep.{CommandStep}
use Rattle.walk.specs.declared.step.Step.{Step}
use Rattle.walk.specs.declared.whole.WalkEnd.{WalkEnd}
use Rattle.walk.proofs.step.after_steps.Reads as after_steps
use Rattle.walk.proofs.step.step_at.Reads as step-at
use Rattle.walk.proofs.step.payload_at.Reads as payload_at
use Rattle.walk.proofs.command.uplink_at.Reads as uplink_at
use Rattle.walk.proofs.command.downlink_at.Reads as downlink_at
use Rattle.walk.proofs.whole.walk.Reads as walk
use Rattle.walk.proofs.whole.walk_from.Reads as walk-from
use Rattle.lent.specs.declared.iterator.MacCommandIterator.{MacCommandIterator}
use Rattle.lent.proofs.iterator.MacCommandIterator.next.Reads as next
use Rattle.claims.specs.Handing.{Front, NoCommand, Calls, ReadAs, steps, uplink_steps, downlink_steps, iterator, record_steps, record_iterator, commands_of, with_payload}
use Rattle.claims.specs.Outcomes.{Gives, GivesWith}

module _ (rules : Rules) (stream : Bor (List ℕ)) where
  abbrev L : Rule
  L = length_of rules

  abbrev s : List ℕ
  s = stream.now

  module _ (F : Front Cmd) where
    -- D3a: the commands handed out, put one behind the other, are the bytes in front of the offset
    pub record OwnedBefore (st : F.State) (out : List Cmd) : Type 0 where
      pub commands : WellFormed L out
      pub within : F.offset st ≤ length s
      pub bytes : take (F.offset st) s ≡ encode out

    abbrev pub OwnsBytes : Type 0
    OwnsBytes = (st : F.State) (out : List Cmd) → Calls F st out → OwnedBefore st out

    -- D3b: what is answered and is no command is one of the three endings, at the offset where it is so. It stays, and the whole walk tells
    -- it too, with the number of commands that were handed out
    pub record EndsThere (st st' : F.State) (out : List Cmd) (a : Answer (Found Cmd)) : Type 0 where
      pub ending : Ending
      pub says : a ≡ given (first_of [] ending)
      pub ends : Ends L (F.offset st) (drop (F.offset st) s) ending
      pub stays : (b : Answer (Found Cmd)) (st'' : F.State) → F.ask st' b st'' → b ≡ a
      pub whole : (w : WalkEnd) → Gives walk.Post (rules, (stream, tt)) w → told_walk w ≡ (given ending, length out)

    abbrev pub StopsThere : Type 0
    StopsThere = (st st' : F.State) (out : List Cmd) (a : Answer (Found Cmd)) → Calls F st out → F.ask st a st' → NoCommand a → EndsThere st st' out a

    -- D3c: commands whose bytes are a front of the stream. All of them were handed out first; or those handed out are the first of them, and
    -- what is answered is the next
    pub data Begins (cs : List Cmd) (st : F.State) (out : List Cmd) : Type 0 where
      all_out : (more : List Cmd) → out ≡ cs ++ more → Begins cs st out
      coming : (c : Cmd) (more : List Cmd) → cs ≡ out ++ (c ∷ more)
          → ((a : Answer (Found Cmd)) (st' : F.State) → F.ask st a st' → a ≡ given (command c (F.offset st + size c)))
          → Begins cs st out

    abbrev pub FrontsBegin : Type 0
    FrontsBegin = (cs : List Cmd) (rest : List ℕ) → WellFormed L cs → encode cs ++ rest ≡ s → (st : F.State) (out : List Cmd) → Calls F st out → Begins cs st out

    pub record OneOwnerBy : Type 0 where
      pub a : OwnsBytes
      pub b : StopsThere
      pub c : FrontsBegin

  -- of the whole walk alone: it ends in one of the three ways, where it says (D3b); it counts every division of a front (D3c), and no more
  -- commands than there are bytes
  pub record WholeWalk (w : WalkEnd) : Type 0 where
    pub ending : Ending
    pub count : ℕ
    pub says : told_walk w ≡ (given ending, count)
    pub ends : Ends L (place_of ending) (drop (place_of ending) s) ending
    pub at_least : (cs : List Cmd) (rest : List ℕ) → WellFormed L cs → encode cs ++ rest ≡ s → length cs ≤ count
    pub at_most : count ≤ length s

  -- the payload that is shown (W2): it begins behind the CID, in the stream itself, and ends where the step says that the next command is. Where
  -- there is no command, it is the stream's front, with no bytes
  pub record ShownBehind (at : ℕ) (r : Step) (p : Bor (List ℕ)) : Type 0 where
    pub behind : (h : Heading) (next : ℕ) → told_step r ≡ given (command h next)
        → (shown p ≡ part_of stream (at + 1) h.len) × (next ≡ at + (1 + h.len)) × (next ≤ length s)
    pub none : NoCommand (with_payload (told_step r) []) → shown p ≡ empty_front stream

  -- where n steps from an offset of the stream lead (W8): the walk from there is that from the offset, n commands dropped. There stands the first of those
  -- left, or else the ending, and whatever `step_at` answers there is that command, or that ending
  module _ (from n at : ℕ) where
    abbrev w : Walk
    w = walk_from L from (drop from s)

    pub record LedTo : Type 0 where
      pub rest : walk_from L at (drop at s) ≡ record { cmds = drop n w.cmds; ending = w.ending }
      pub stands : at ≡ offset_of (drop n w.cmds) w.ending
      pub finds : (r : Step) → Gives step-at.Post (rules, (stream, (at, tt))) r → told_step r ≡ in_numbers (given (first_of (drop n w.cmds) w.ending))

  pub record OneOwner : Type 0 where
    pub by_steps : OneOwnerBy (steps rules stream)
    pub by_iterator : OneOwnerBy (iterator rules stream)
    pub as_records : (frame : ℕ) → OneOwnerBy (commands_of (record_steps rules frame stream))
    pub by_record_iterator : (frame : ℕ) → OneOwnerBy (commands_of (record_iterator rules frame stream))
    pub typed_up : rules ≡ sent_up → OneOwnerBy (uplink_steps stream)
    pub typed_down : rules ≡ sent_down → OneOwnerBy (downlink_steps stream)
    pub whole : (w : WalkEnd) → Gives walk.Post (rules, (stream, tt)) w → WholeWalk w
    pub payload : (at : ℕ) (r : Step) (p : Bor (List ℕ)) → Gives step-at.Post (rules, (stream, (at, tt))) r → Gives payload_at.Post (rules, (stream, (at, tt))) p
        → ShownBehind at r p
    -- what is handed out is the walk that crates/walk/specs/Walk.antt defines
    pub defined : ReadAs rules stream (walk_of L s).cmds (walk_of L s).ending
    -- at every offset, on the walk's way or not, a step finds what the walk from there would begin with; past the stream it is refused with 5 (R5)
    pub step_defined : (at : ℕ) (r : Step) → Gives step-at.Post (rules, (stream, (at, tt))) r → told_step r ≡ step_at L s at
    pub walk_defined : (from : ℕ) (w : WalkEnd) → Gives walk-from.Post (rules, (stream, (from, tt))) w → told_walk w ≡ tally_from L s from
    pub steps_lead : (from n at : ℕ) → from ≤ length s → Gives after_steps.Post (rules, (stream, (from, (n, tt)))) at → LedTo from n at
    -- past the stream no step leads on
    pub steps_stay : (from n at : ℕ) → length s < from → Gives after_steps.Post (rules, (stream, (from, (n, tt)))) at → at ≡ from
    pub up_defined : rules ≡ sent_up → (at : ℕ) (r : CommandStep UplinkMacCommand) → Gives uplink_at.Post (stream, (at, tt)) r → told_uplink_step r ≡ found_at L s at
    pub down_defined : rules ≡ sent_down → (at : ℕ) (r : CommandStep DownlinkMacCommand) → Gives downlink_at.Post (stream, (at, tt)) r → told_downlink_step r ≡ found_at L s at

-- `next` answers as `step_at` does at the iterator's index, length and all
abbrev pub NextIsStep : Type 0
NextIsStep = (it : MutBor MacCommandIterator) (q r : Step) (it' : MacCommandIterator)
    → GivesWith (λ s. s.0.now) next.Post (it, tt) q it' → Gives step-at.Post (it.now.rules, (it.now.«data», (it.now.index, tt))) r → q ≡ r
