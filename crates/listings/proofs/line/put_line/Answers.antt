-- `put_line` meets its contract, by the answers of a step. Assumes nothing.
use Prim.Native.Nat.{ℕ, ◌+◌, ◌≤◌}
use mathlib.Core.List.{List}
use mathlib.Core.Path.{◌≡◌, sym, ap, ◌∙◌, subst}
use lib.ListN.{length}
use Rattle.bits.specs.Memory.{written_at}
use Rattle.bits.proofs.Memory.{Left}
use Rattle.text.specs.Lines.{Line, line}
use Rattle.walk.specs.Told.{told_step}
use Rattle.walk.specs.Walk.{stop}
use Rattle.listings.specs.Listing.{in_frame, last_line}
use Rattle.listings.specs.Passes.{stamp, step_line}
use Rattle.listings.proofs.Putting.{stamp_room, line_room, line_put}
use Rattle.listings.proofs.Walking.{stands, command_shown, end_shown, stop_shown}
use Rattle.listings.proofs.line.put_line.Goals as goal
use Rattle.listings.proofs.line.put_line.Goals.{Start}

abbrev shown : Start → Line
shown i = step_line i.args.rules i.args.stream.now i.args.at (told_step i.args.found)

-- behind the stamp there is room for the step's line, and what is written there, where the line is known
module _ (i : Start) {n : ℕ} {o : List ℕ} (p : Left n o i.args.out.now i.args.to (stamp i.args.frame)) {m : Line} (e : shown i ≡ m) where
  known_room : n + length (line m) ≤ length o
  known_room =
      subst (λ (l : Line). n + length (line l) ≤ length o) e
      (line_room i.args.frame i.args.out.now i.args.to (shown i) i.requires.found_in_bounds p).1

  known_put : {k : ℕ} {q : List ℕ} → Left k q o n (line m) → Left k q i.args.out.now i.args.to (line (in_frame i.args.frame (shown i)))
  known_put l =
      line_put i.args.frame i.args.out.now i.args.to (shown i) i.requires.found_in_bounds p
      (l ∙ ap (λ (l : Line). written_at o n (line l)) (sym e))

pub put_stamp-a-requires : goal.put_stamp-a-requires
put_stamp-a-requires c = stamp_room _ _ _ (shown (goal.at.put_stamp-a-requires c).Start) c.requires.found_in_bounds

pub new-requires : goal.new-requires
new-requires c = stands c.args.rules c.args.stream.now (sym c.requires.found_value ∙ ap told_step c.in-Command.is)

pub put-requires : goal.put-requires
put-requires c =
    let e = c.new.ensures in
    known_room (goal.at.put-requires c).Start c.put_stamp-a.ensures (command_shown _ _ _ c.in-Command.is c.new.result e.rules e.at e.cid e.payload)

pub put_end-requires : goal.put_end-requires
put_end-requires c = known_room (goal.at.put_end-requires c).Start c.put_stamp-a.ensures (end_shown _ _ _ c.in-End.is)

pub put_stop-requires : goal.put_stop-requires
put_stop-requires c =
    known_room (goal.at.put_stop-requires c).Start c.put_stamp-a.ensures
    (stop_shown _ _ _ c.in-Stop.is ∙ ap (λ (k : ℕ). last_line (stop k c.args.at)) (sym c.number.ensures))

pub returns-in-Command : goal.returns-in-Command
returns-in-Command c =
    let e = c.new.ensures in
    known_put (goal.at.returns-in-Command c).Start c.put_stamp-a.ensures (command_shown _ _ _ c.in-Command.is c.new.result e.rules e.at e.cid e.payload) c.put.ensures

pub returns-in-End : goal.returns-in-End
returns-in-End c = known_put (goal.at.returns-in-End c).Start c.put_stamp-a.ensures (end_shown _ _ _ c.in-End.is) c.put_end.ensures

pub returns-in-Stop : goal.returns-in-Stop
returns-in-Stop c =
    known_put (goal.at.returns-in-Stop c).Start c.put_stamp-a.ensures
    (stop_shown _ _ _ c.in-Stop.is ∙ ap (λ (k : ℕ). last_line (stop k c.args.at)) (sym c.number.ensures)) c.put_stop.ensures
