-- `put` meets its contract. Assumes nothing.
use Rattle.listings.proofs.Putting.{before_room, behind_room, command_put}
use Rattle.listings.proofs.command.Command.put.Goals as goal

pub put_before-a-requires : goal.put_before-a-requires
put_before-a-requires c = before_room _ _ _ _ _ c.args.self.payload.now c.requires

pub put_behind-requires : goal.put_behind-requires
put_behind-requires c = behind_room _ _ _ _ _ c.args.self.payload.now c.requires c.put_before-a.ensures c.put_payload-b.ensures

pub returns : goal.returns
returns c = command_put _ _ _ _ _ c.args.self.payload.now c.requires c.put_before-a.ensures c.put_payload-b.ensures c.put_behind.ensures
