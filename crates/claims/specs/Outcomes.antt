-- What it is for a function's contract to admit an outcome: the claims hold of every outcome that is admitted, whatever the body does. A contract
-- that admits none is met by no function that returns, and every function is proved to return.
use Rattle.std.specs.Prelude.{◌≡◌}

-- the contract, as the check reads it, admits this result at these arguments
abbrev pub Gives : {K A R S : Type 0} → (K → A → R → S → Type 0) → A → R → Type 0
Gives {K = K} {S = S} Post args r = (κs : K) × ((exit : S) × Post κs args r exit)

-- and with it, that lent memory is so: `left` reads it off the parameters at exit
abbrev pub GivesWith : {K A R S M : Type 0} → (S → M) → (K → A → R → S → Type 0) → A → R → M → Type 0
GivesWith {K = K} {S = S} left Post args r m = (κs : K) × ((exit : S) × (Post κs args r exit × (left exit ≡ m)))
