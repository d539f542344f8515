-- The bytes that a build wrote: none where it refused.
use Rattle.std.specs.Prelude.{ℕ}
use Rattle.build.specs.Build.{Built, total, refused_at, refused}

abbrev pub written : Built → ℕ
written (total n) = n
written (refused_at k place) = 0
written (refused k) = 0
