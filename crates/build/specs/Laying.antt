-- Not for the auditor: only private functions cite this. How the loop over slots leaves memory behind each record.
use Rattle.std.specs.Prelude.{ℕ, ◌+◌, ◌≤◌, List, ◌++◌, ◌≡◌, length}
use Rattle.bits.specs.Memory.{over}
use Rattle.build.specs.Records.{Rec, command_bytes}

-- a record among others that are written up to an offset `end`: the next goes behind it, so up to `end` there may be a surplus
pub record LaidAt (out : List ℕ) (at end : ℕ) (r : Rec) (next : ℕ) (o : List ℕ) : Type 0 where
  pub surplus : List ℕ
  pub behind : next ≡ at + length (command_bytes r)
  pub memory : o ≡ over out at (command_bytes r ++ surplus)
  pub within : at + length (command_bytes r ++ surplus) ≤ end
