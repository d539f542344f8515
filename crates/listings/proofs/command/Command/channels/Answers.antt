-- `channels` meets its contract: the payload of the command that is counted has four bytes. Assumes nothing.
use Prim.Native.Nat.{◌<◌}
use mathlib.Core.Path.{◌≡◌, ap, ◌∙◌}
use native.Mathlib.Omega.{arith}
use lib.ListN.{length}
use Rattle.fields.specs.Mask.{channels_on}
use Rattle.listings.specs.Listing.{channels}
use Rattle.listings.proofs.Lining.{counted_four, four_listed}
use Rattle.listings.proofs.command.Command.channels.Goals as goal
use Rattle.listings.proofs.command.Command.channels.Goals.{Start}

four : (c : Start) → length c.args.self.payload.now ≡ 4
four c = let a = c.args.self in counted_four a.rules a.cid (length a.payload.now) c.requires a.known

pub bounds-payload-0 : goal.bounds-payload-0
bounds-payload-0 c = omega (arith, four (goal.at.bounds-payload-0 c).Start)

pub bounds-payload-1 : goal.bounds-payload-1
bounds-payload-1 c = let lt : 1 < length c.args.self.payload.now = omega (arith, four (goal.at.bounds-payload-1 c).Start) in lt

pub bounds-payload-2 : goal.bounds-payload-2
bounds-payload-2 c = let lt : 2 < length c.args.self.payload.now = omega (arith, four (goal.at.bounds-payload-2 c).Start) in lt

pub bounds-payload-3 : goal.bounds-payload-3
bounds-payload-3 c = let lt : 3 < length c.args.self.payload.now = omega (arith, four (goal.at.bounds-payload-3 c).Start) in lt

pub returns : goal.returns
returns c =
    let s = c.args.self.payload.now in
    c.channels_on.ensures ∙ ap channels_on c.channel_mask.ensures ∙ ap channels (four_listed s (four (goal.at.returns c).Start))
