-- `channels_on` meets its contract. Assumes nothing.
use Rattle.std.proofs.Common.{rules}
use Rattle.fields.proofs.Counts.{on_in_word}
use Rattle.fields.proofs.channel_mask.ChannelMask+2.channels_on.Goals as goal

pub returns : goal.returns
returns c = on_in_word c.args.self.0 c.from_le_bytes.result (search rules) (search rules) (search rules) (search rules)
