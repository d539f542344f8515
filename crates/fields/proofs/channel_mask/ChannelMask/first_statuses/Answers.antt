-- `first_statuses` meets its contract. Assumes nothing.
use Rattle.std.proofs.Common.{rules, false}
use Rattle.fields.specs.Mask.{channel_on}
use Rattle.fields.proofs.Lists.{made_by_calls}
use Rattle.fields.proofs.channel_mask.ChannelMask.first_statuses.Goals as goal

pub returns : goal.returns
returns g c = made_by_calls _ _ (channel_on c.args.self.now.0) (λ k y q t. (search rules, search rules)) g.row.CHANNELS c.from_fn.result false c.from_fn.ensures.items
