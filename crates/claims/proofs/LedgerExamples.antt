-- The examples of crates/claims/specs/Ledger.antt hold: of the definitions, where each side computes, and so of every outcome that the contracts
-- admit. Assumes nothing.
use Prim.Native.Nat.{ℕ}
use mathlib.Core.List.{List, [], ◌∷◌, ◌++◌, map}
use mathlib.Core.Option.{Option}
use mathlib.Core.Path.{◌≡◌, refl, ap, ap₂, ◌∙◌, subst}
use lib.ListN.{length, drop}
use Rattle.bits.specs.Every.{Every}
use Rattle.table.specs.Answers.{Consent}
use Rattle.text.specs.Characters.{ascii}
use Rattle.text.specs.Decimal.{digits, decimal, value_from}
use Rattle.text.specs.Hex.{hex_of, bytes_of}
use Rattle.text.specs.Lines.{joined}
use Rattle.fields.specs.Lists.{tabulate}
use Rattle.walk.specs.Walk.{go}
use Rattle.ledger.specs.Book.{Book, steps, taken_all, replayed}
use Rattle.ledger.specs.Claims.{in_numbers, fresh}
use Rattle.ledger.specs.Events.{Request, events_of}
use Rattle.ledger.specs.Memory.{held_in, note_at}
use Rattle.ledger.specs.Parents.{Shown, shown, Note}
use Rattle.ledger.specs.Settings.{Setting}
use Rattle.ledger.specs.Trace.{written, up_to, behind, begins, all_bytes, front, lines_within, lines_of}
use Rattle.claims.specs.Ledger.{EntriesAre, Example, lent_nine, Holds, examples}
use Rattle.claims.proofs.Ledger.{outcome_of, from_new, told_is, entries_are}

-- what is seen of an outcome: the verdict, the line, the settings that an example asks for, the number of entries, the list, and its entries
abbrev Seen : Type 0
Seen = Consent × ℕ × List (Option Shown) × ℕ × List ℕ × List Note

abbrev shown_of : (Setting → List Request) → Setting × Option Shown → Option Shown
shown_of held x = shown x.0 (held x.0)

abbrev told : Setting × Option Shown → Option Shown
told x = x.1

abbrev seen : List (Setting × Option Shown) → Consent × ℕ × Book → Seen
seen xs o = (o.0, o.1, map (shown_of o.2.held) xs, o.2.listed, o.2.list, tabulate o.2.listed (note_at o.2.list))

-- of an example, by the definitions, and as it is given
abbrev means : Example → Seen
means e = seen e.shows (replayed (ascii e.text) (fresh lent_nine))

abbrev says : Example → Seen
says e =
    let numbers : List ℕ = in_numbers e.entries in
    (e.verdict, e.line, map told e.shows, length e.entries, numbers ++ drop (length numbers) lent_nine, e.entries)

each : {A B : Type 0} (f g : A → B) (xs : List A) → map f xs ≡ map g xs → Every (λ (x : A). f x ≡ g x) xs
each f g [] e = tt
each f g (x ∷ xs) e = (cc, each f g xs cc)

every : {A : Type 0} {P Q : A → Type 0} → ((x : A) → P x → Q x) → (xs : List A) → Every P xs → Every Q xs
every f [] p = tt
every f (x ∷ xs) p = (f x p.0, every f xs p.1)

of_functions : (e : Example) → means e ≡ says e → Holds e
of_functions e same text list r after text_is list-is g =
    let o = from_new text list r after g ∙ ap₂ (λ (t w : List ℕ). replayed t (fresh w)) text_is list-is in
    let s : seen e.shows (outcome_of r after) ≡ says e = ap (seen e.shows) o ∙ same in
    let held : Setting → List Request = held_in r.ledger.held in
    record {
      verdict = ap (λ (x : Seen). x.0) s;
      line = ap (λ (x : Seen). x.1) s;
      shows = every (λ x p h a. told_is x.0 r.ledger h a ∙ p) e.shows (each (shown_of held) told e.shows (ap (λ (x : Seen). x.2) s));
      count = ap (λ (x : Seen). x.3) s;
      entries = subst (EntriesAre after) (ap (λ (x : Seen). x.5) s) (entries_are after r.ledger.listed);
      numbers = ap (λ (x : Seen). x.4) s;
    }

all_mean : map means examples ≡ map says examples
unfolding lines_of lines_within front up_to behind begins all_bytes written ascii digits decimal value_from hex_of bytes_of joined taken_all steps events_of go tabulate
all_mean = refl

pub examples_held : Every Holds examples
examples_held = every of_functions examples (each means says examples all_mean)
