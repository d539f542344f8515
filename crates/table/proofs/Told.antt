-- An answer is known from what it tells: each `told` has an inverse. Assumes nothing.
use Prim.Native.Nat.{ℕ, ◌-◌}
use mathlib.Core.Path.{◌≡◌, refl, ap, ap₂}
use mathlib.Core.List.{List, [], ◌∷◌}
use mathlib.Core.Option.{Option, none, some}
use lib.ListN.{get_or}
use Rattle.std.specs.Prelude.{Result, Ok, Err, Some, None}
use Rattle.std.specs.Prelude as Std
use Rattle.bits.proofs.Fixed.{by_inverse}
use Rattle.table.specs.declared.refusal.Refusal.{Refusal}
use Rattle.table.specs.declared.refusal.Refusal.TheVariants.{
  UnknownMacCommand,
  TruncatedPayload,
  WrongLength,
  BufferTooShort,
  InvalidIndex,
  InvalidDataRateRange,
  InvalidDataRate,
  InvalidTxPower,
  MarginOutOfRange,
  DelayOutOfRange,
  MaxEirpOutOfRange,
  NanoSecondsOutOfRange,
  BothPlaces,
  FOptsTooLong,
  PayloadWithoutPort,
  ListTooLong,
  PendingFull,
  BadTraceLine,
  NoSuchCommand,
}
use Rattle.table.specs.Answers.{Answer, Consent, given, refused}
use Rattle.table.specs.Refusals.{number_of}
use Rattle.table.specs.Told.{told, told_length, told_verdict}

refusals : List Refusal
refusals =
    UnknownMacCommand ∷
    TruncatedPayload ∷
    WrongLength ∷
    BufferTooShort ∷
    InvalidIndex ∷
    InvalidDataRateRange ∷
    InvalidDataRate ∷
    InvalidTxPower ∷
    MarginOutOfRange ∷
    DelayOutOfRange ∷
    MaxEirpOutOfRange ∷
    NanoSecondsOutOfRange ∷
    BothPlaces ∷
    FOptsTooLong ∷
    PayloadWithoutPort ∷
    ListTooLong ∷
    PendingFull ∷
    BadTraceLine ∷
    NoSuchCommand ∷ []

-- the refusal of a number
unfoldable pub numbered : ℕ → Refusal
unfolding refusals
numbered n = get_or refusals (n - 1) NoSuchCommand

pub numbered_number : (r : Refusal) → numbered (number_of r) ≡ r
unfolding numbered refusals
numbered_number UnknownMacCommand = refl
numbered_number TruncatedPayload = refl
numbered_number WrongLength = refl
numbered_number BufferTooShort = refl
numbered_number InvalidIndex = refl
numbered_number InvalidDataRateRange = refl
numbered_number InvalidDataRate = refl
numbered_number InvalidTxPower = refl
numbered_number MarginOutOfRange = refl
numbered_number DelayOutOfRange = refl
numbered_number MaxEirpOutOfRange = refl
numbered_number NanoSecondsOutOfRange = refl
numbered_number BothPlaces = refl
numbered_number FOptsTooLong = refl
numbered_number PayloadWithoutPort = refl
numbered_number ListTooLong = refl
numbered_number PendingFull = refl
numbered_number BadTraceLine = refl
numbered_number NoSuchCommand = refl

length_told : Option ℕ → Std.Option ℕ
length_told none = None
length_told (some n) = Some n

length_back : (l : Std.Option ℕ) → length_told (told_length l) ≡ l
unfolding length_told
length_back None = refl
length_back (Some n) = refl

pub length_tells : {l m : Std.Option ℕ} → told_length l ≡ told_length m → l ≡ m
length_tells p = by_inverse told_length length_told length_back p

-- an answer whose value is known from what is told of it
module _ {A B : Type 0} (f : A → B) (g : B → A) (back : (x : A) → g (f x) ≡ x) where
  untold : Answer B → Result A Refusal
  untold (given y) = Ok (g y)
  untold (refused n) = Err (numbered n)

  told_back : (r : Result A Refusal) → untold (told f r) ≡ r
  unfolding untold
  told_back (Ok x) = ap Ok (back x)
  told_back (Err e) = ap Err (numbered_number e)

  pub tells : {r s : Result A Refusal} → told f r ≡ told f s → r ≡ s
  tells p = by_inverse (told f) untold told_back p

pub verdict_tells : {v w : Result Unit Refusal} → told_verdict v ≡ told_verdict w → v ≡ w
verdict_tells p = tells (λ _. tt) (λ _. tt) (λ _. refl) p

-- an answer that is made of a verdict and a value beside it
pub beside_tells : {A B : Type 0} (make : Result Unit Refusal → B → A) {v w : Result Unit Refusal} {x y : B}
    → ◌≡◌ {A = Consent × B} (told_verdict v, x) (told_verdict w, y) → make v x ≡ make w y
beside_tells make p = ap₂ make (verdict_tells (ap (λ o. o.0) p)) (ap (λ o. o.1) p)
