-- `payload_number` meets its contract. Assumes nothing.
use Rattle.ledger.proofs.Walking.{five_in}
use Rattle.ledger.proofs.commands.Command.payload_number.Goals as goal

pub returns : goal.returns
returns c =
    five_in c.args.self.payload.now c.low_first.ensures
    c.payload_byte-a.ensures c.payload_byte-b.ensures c.payload_byte-c.ensures c.payload_byte-d.ensures c.payload_byte-e.ensures
