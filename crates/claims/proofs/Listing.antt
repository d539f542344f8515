-- The listing says what is read: crates/claims/specs/Listing.antt. Assumes nothing.
use Prim.Native.Nat.{ℕ, ◌≤◌}
use mathlib.Core.List.{List, [], ◌∷◌}
use mathlib.Core.Path.{◌≡◌, refl, sym, ap, ◌∙◌, subst}
use native.Mathlib.Decide.{dec_le}
use native.Mathlib.Omega.{arith}
use lib.ListN.{length, take, drop}
use lib.Seq.{take-append_seam}
use borrow.Author.Tests.{le-leb, lt-leb}
use Rattle.std.specs.Borrow.{Bor, MutBor}
use Rattle.bits.specs.Every.{Every}
use Rattle.bits.proofs.Memory.{over_front}
use Rattle.table.specs.Answers.{Answer, given, refused}
use Rattle.table.specs.Table.{length_of}
use Rattle.table.specs.declared.rules.Rules.{Rules}
use Rattle.text.specs.Characters.{ascii}
use Rattle.text.specs.Decimal.{decimal, digits}
use Rattle.text.specs.Hex.{hex_of}
use Rattle.text.specs.Lines.{joined, text}
use Rattle.fields.specs.Lists.{tabulate}
use Rattle.walk.specs.Walk.{Walk, go, walk_of}
use Rattle.listings.specs.Into.{largest, length_within, into}
use Rattle.listings.specs.Listing.{lines_of, listing_of}
use Rattle.listings.specs.Told.{told_listing}
use Rattle.listings.proofs.Into.{into_room, into_none}
use Rattle.listings.proofs.Telling.{text_fixes_walk}
use Rattle.claims.specs.Listing.{Lists, Sizes, TextIs, SaysWhatIsRead, TextFixes, Example, Shown, ListingsTell, examples}
use Rattle.claims.specs.Handing.{ReadAs}
use Rattle.claims.proofs.Handing as Handing
use Rattle.claims.proofs.Keeping.{both}

module _ (rules : Rules) (frame : ℕ) (stream : Bor (List ℕ)) where
  abbrev all : List ℕ
  all = listing_of rules frame stream.now

  -- the two contracts, of what is told
  lists : (out : MutBor (List ℕ)) (a : Answer ℕ) (after : List ℕ) → Lists rules frame stream out a after → ◌≡◌ {A = Answer ℕ × List ℕ} (a, after) (into all out.now)
  lists out a after l =
      let g = l.admitted.1.1 in
      ap (λ (x : Answer ℕ). (x, after)) (sym l.told) ∙ ap (λ (o : List ℕ). (told_listing l.answer, o)) (sym g.1) ∙ g.0

  sizes : (a : Answer ℕ) → Sizes rules frame stream a → a ≡ length_within largest all
  sizes a l = sym l.told ∙ l.admitted.1.1

  pub written_all : TextIs rules frame stream all
  unfolding length_within
  written_all = record {
    room = λ out a after l h. let e = both (lists out a after l ∙ into_room all out.now h) in (e.0, e.1 ∙ over_front out.now all);
    no_room = λ out a after l h. both (lists out a after l ∙ into_none all out.now h);
    sized = λ a l h. simp (le-leb (length all) largest h) at (sizes a l);
    too_long = λ a l h. simp (lt-leb (length all) largest h) at (sizes a l);
  }

  pub says_what_is_read : SaysWhatIsRead rules frame stream
  says_what_is_read = record {
    cmds = (walk_of (length_of rules) stream.now).cmds;
    ending = (walk_of (length_of rules) stream.now).ending;
    read = Handing.reads rules stream;
    lines = written_all;
  }

  -- what stands at the front, where the writer answers a length
  front : (out : MutBor (List ℕ)) (n : ℕ) (after : List ℕ) → Lists rules frame stream out (given n) after → take n after ≡ all
  front out n after l = by (dec_le (length all) (length out.now))
    where
      by : Dec (length all ≤ length out.now) → take n after ≡ all
      by (yes h) =
          let w = written_all.room out (given n) after l h in
          let told : ◌≡◌ {A = Answer ℕ} (given n) (given (length all)) = w.0 in
          let n_is : n ≡ length all = cc in
          ap (λ (k : ℕ). take k after) n_is ∙ ap (take (length all)) w.1 ∙ take-append_seam all (drop (length all) out.now)
      by (no h) =
          let w = written_all.no_room out (given n) after l (omega arith) in
          let told : ◌≡◌ {A = Answer ℕ} (given n) (refused 4) = w.0 in
          cc

pub text_fixes : TextFixes
text_fixes rules f g s t o p n after after' l l' e =
    let same = text_fixes_walk rules f g (walk_of (length_of rules) s.now) (walk_of (length_of rules) t.now) (sym (front rules f s o n after l) ∙ e ∙ front rules g t p n after' l') in (
      same.0,
      record {
        cmds = (walk_of (length_of rules) s.now).cmds;
        ending = (walk_of (length_of rules) s.now).ending;
        one = Handing.reads rules s;
        other = subst (λ (w : Walk). ReadAs rules t w.cmds w.ending) (sym same.1) (Handing.reads rules t);
      },
    )

-- an example's text is what is defined
abbrev Defined : Example → Type 0
Defined e = listing_of (record { direction = e.direction }) e.frame e.bytes ≡ ascii e.shown

shown_by : (e : Example) → Defined e → Shown e
shown_by e p stream q =
    subst (TextIs (record { direction = e.direction }) e.frame stream) (ap (listing_of (record { direction = e.direction }) e.frame) q ∙ p)
    (written_all (record { direction = e.direction }) e.frame stream)

all_shown : (es : List Example) → Every Defined es → Every Shown es
all_shown [] d = tt
all_shown (e ∷ es) d = (shown_by e d.0, all_shown es d.1)

defined : Every Defined examples
unfolding go lines_of text joined decimal digits hex_of ascii tabulate
defined = (refl, (refl, (refl, (refl, (refl, (refl, (refl, (refl, (refl, (refl, tt))))))))))

pub listings_tell : ListingsTell
listings_tell = record { says_what_is_read = says_what_is_read; text_fixes = text_fixes; shown = all_shown examples defined }
