-- The contracts of crate lent's public functions admit exactly what their definitions say, in both readings: crates/claims/specs/ByHand.antt. Assumes
-- nothing.
use Prim.Native.Nat.{ℕ, zero, suc}
use mathlib.Core.List.{List, []}
use mathlib.Core.Logic.{∥∥₁_elim}
use mathlib.Core.Path.{◌≡◌, refl, sym, ap, ◌∙◌}
use base.Logic.{ent, emp, id⊢}
use base.Stored.{Coded, Coded-set, coded_ℕ, coded×, coded_list, coded_via}
use contract.BorrowModel.{logic₀}
use contract.Monad.{fact}
use ghost.Model.{Res, 𝓤}
use denote.Ref.{NamedLft, Bor, shr_coded, at_last}
use denote.Signature.{named_lft}
use Rattle.bits.proofs.Fixed.{by_inverse}
use Rattle.table.specs.Answers.{Answer, given, refused}
use Rattle.walk.specs.Step.{Found, ended, command, stopped, Heading, heading}
use Rattle.build.specs.Build.{Built, total, refused_at}
use Rattle.build.specs.Build as Build
use Rattle.build.specs.declared.record.Record.{Record}
use Rattle.build.specs.contracts.record.Record as R
use Rattle.lent.specs.contracts.iterator.MacCommandIterator as T
use Rattle.lent.specs.declared.iterator.MacCommandIterator.{MacCommandIterator}
use Rattle.claims.specs.ByHand.{ByHand}

-- ---- equations that have one proof

found : ℕ × (ℕ × (ℕ × ℕ)) → Answer (Found Heading)
found (zero, x) = given ended
found (suc zero, x) = given (command (heading x.0 x.1.0) x.1.1)
found (suc (suc zero), x) = given (stopped x.0 x.1.0)
found (suc (suc (suc n)), x) = refused x.0

numbers : Answer (Found Heading) → ℕ × (ℕ × (ℕ × ℕ))
numbers (given ended) = (0, (0, (0, 0)))
numbers (given (command h next)) = (1, (h.cid, (h.len, next)))
numbers (given (stopped n at)) = (2, (n, (at, 0)))
numbers (refused n) = (3, (n, (0, 0)))

found_back : (a : Answer (Found Heading)) → found (numbers a) ≡ a
unfolding found numbers
found_back (given ended) = refl
found_back (given (command h next)) = refl
found_back (given (stopped n at)) = refl
found_back (refused n) = refl

coded_found : Coded (Answer (Found Heading))
coded_found = coded_via (coded× coded_ℕ (coded× coded_ℕ (coded× coded_ℕ coded_ℕ))) numbers (λ x y p. by_inverse numbers found found_back p)

built : ℕ × (ℕ × ℕ) → Built
built (zero, x) = total x.0
built (suc zero, x) = refused_at x.0 x.1
built (suc (suc n), x) = Build.refused x.0

parts : Built → ℕ × (ℕ × ℕ)
parts (total n) = (0, (n, 0))
parts (refused_at k place) = (1, (k, place))
parts (Build.refused k) = (2, (k, 0))

built_back : (b : Built) → built (parts b) ≡ b
unfolding built parts
built_back (total n) = refl
built_back (refused_at k place) = refl
built_back (Build.refused k) = refl

coded_built : Coded Built
coded_built = coded_via (coded× coded_ℕ (coded× coded_ℕ coded_ℕ)) parts (λ x y p. by_inverse parts built built_back p)

-- at a lifetime of its stream
module _ (α : NamedLft) where
  coded_iterator : Coded MacCommandIterator
  coded_iterator = (T.the_row α).coded

  iterator_set : IsSet MacCommandIterator
  iterator_set = Coded-set coded_iterator

  next_set : IsSet (Answer (Found Heading) × MacCommandIterator)
  next_set = Coded-set (coded× coded_found coded_iterator)

  next_record_set : IsSet ((Answer (Found Heading) × Record) × MacCommandIterator)
  next_record_set = Coded-set (coded× (coded× coded_found (R.the_row).coded) coded_iterator)

found_set : IsSet (Answer (Found Heading))
found_set = Coded-set coded_found

built_set : IsSet Built
built_set = Coded-set coded_built

stream_set : IsSet (Bor (List ℕ))
stream_set = Coded-set (shr_coded (coded_list coded_ℕ))

index_set : IsSet ℕ
index_set = Coded-set coded_ℕ

build_set : IsSet (Built × List ℕ)
build_set = Coded-set (coded× coded_built (coded_list coded_ℕ))

-- ---- in the closed model of memory

-- a fact that follows from one that is so is so
follows : {φ ψ : Type 0} → IsProp φ → ψ → ent 𝓤 (fact 𝓤 ψ) (fact 𝓤 φ) → φ
follows {φ} p x h = ∥∥₁_elim (h.apply 𝓤.one ∣ (x, tt) ∣₁) p (λ t. t.0)

-- ---- read plainly

-- what is so of lent memory at exit is so of what was read off it
of_left : {A B : Type 0} {a : A} {x y : B} {z : A × B} → x ≡ y → ◌≡◌ {A = A × B} (a, x) z → ◌≡◌ {A = A × B} (a, y) z
of_left {a = a} p e = ap (λ b. (a, b)) (sym p) ∙ e

-- ---- both readings

pub by_hand : ByHand
by_hand = record {
  new = λ κs s rules it exit. (λ q. q _ (iterator_set (named_lft 1 0 tt κs) _ _) (λ M 𝓤' 𝓛 mem run g. id⊢ 𝓤' _), λ e φ p h. follows p e (h Res 𝓤 logic₀ (λ m. emp 𝓤) (λ r vs K. emp 𝓤) tt));
  parse_up = λ κs s it exit. (λ q. q _ (iterator_set (named_lft 1 0 tt κs) _ _) (λ M 𝓤' 𝓛 mem run g. id⊢ 𝓤' _), λ e φ p h. follows p e (h Res 𝓤 logic₀ (λ m. emp 𝓤) (λ r vs K. emp 𝓤) tt));
  parse_down = λ κs s it exit. (λ q. q _ (iterator_set (named_lft 1 0 tt κs) _ _) (λ M 𝓤' 𝓛 mem run g. id⊢ 𝓤' _), λ e φ p h. follows p e (h Res 𝓤 logic₀ (λ m. emp 𝓤) (λ r vs K. emp 𝓤) tt));
  next = λ κs it r exit. (λ q. q _ (next_set (named_lft 2 1 tt κs) _ _) (λ M 𝓤' 𝓛 mem run g. id⊢ 𝓤' _), λ e φ p h. follows p e (h Res 𝓤 logic₀ (λ m. emp 𝓤) (λ r vs K. emp 𝓤) tt));
  next_record = λ κs it frame r exit. (λ q. q _ (next_record_set (named_lft 2 1 tt κs) _ _) (λ M 𝓤' 𝓛 mem run g. id⊢ 𝓤' _), λ e φ p h. follows p e (h Res 𝓤 logic₀ (λ m. emp 𝓤) (λ r vs K. emp 𝓤) tt));
  stream = λ κs it s exit. (λ q. q _ (stream_set _ _) (λ M 𝓤' 𝓛 mem run g. id⊢ 𝓤' _), λ e φ p h. follows p e (h Res 𝓤 logic₀ (λ m. emp 𝓤) (λ r vs K. emp 𝓤) tt));
  index = λ κs it at exit. (λ q. q _ (index_set _ _) (λ M 𝓤' 𝓛 mem run g. id⊢ 𝓤' _), λ e φ p h. follows p e (h Res 𝓤 logic₀ (λ m. emp 𝓤) (λ r vs K. emp 𝓤) tt));
  nth_step = λ κs rules s n r exit. (λ q. q _ (found_set _ _) (λ M 𝓤' 𝓛 mem run g. id⊢ 𝓤' _), λ e φ p h. follows p e (h Res 𝓤 logic₀ (λ m. emp 𝓤) (λ r vs K. emp 𝓤) tt));
  records_len = λ κs rules records r exit. (λ q. q _ (built_set _ _) (λ M 𝓤' 𝓛 mem run g. id⊢ 𝓤' _), λ e φ p h. follows p e (h Res 𝓤 logic₀ (λ m. emp 𝓤) (λ r vs K. emp 𝓤) tt));
  build_records = λ κs rules records out r exit. (λ q. q _ (build_set _ _) (λ M 𝓤' 𝓛 mem run g. id⊢ 𝓤' _), λ e φ p h. follows p e (h Res 𝓤 logic₀ (λ m. emp 𝓤) (λ r vs K. emp 𝓤) tt));
  build_four = λ κs rules records out r exit. (λ q. q _ (build_set _ _) (λ M 𝓤' 𝓛 mem run g. id⊢ 𝓤' _), λ e φ p h. follows p e (h Res 𝓤 logic₀ (λ m. emp 𝓤) (λ r vs K. emp 𝓤) tt));
  new_read = λ s rules it. (λ g. g.1.1, λ e. (([], tt), ((s, (rules, tt)), e)));
  parse_up_read = λ s it. (λ g. g.1.1, λ e. (([], tt), ((s, tt), e)));
  parse_down_read = λ s it. (λ g. g.1.1, λ e. (([], tt), ((s, tt), e)));
  next_read = λ it r it'. (λ g. of_left g.1.1.1 g.1.1.0, λ e. (([], ([], tt)), ((at_last it it', tt), (e, refl))));
  next_record_read = λ it frame r it'. (λ g. of_left g.1.1.1 g.1.1.0, λ e. (([], ([], tt)), ((at_last it it', (frame, tt)), (e, refl))));
  stream_read = λ it s. (λ g. g.1.1, λ e. (([], tt), ((it, tt), e)));
  index_read = λ it at. (λ g. g.1.1, λ e. (([], tt), ((it, tt), e)));
  nth_step_read = λ rules s n r. (λ g. g.1.1, λ e. (([], tt), ((rules, (s, (n, tt))), e)));
  records_len_read = λ rules records r. (λ g. g.1.1, λ e. (([], tt), ((rules, (records, tt)), e)));
  build_records_read = λ rules records out r after. (λ g. of_left g.1.1.1 g.1.1.0, λ e. (([], ([], tt)), ((rules, (records, (at_last out after, tt))), (e, refl))));
  build_four_read = λ rules records out r after. (λ g. of_left g.1.1.1 g.1.1.0, λ e. (([], tt), ((rules, (records, (at_last out after, tt))), (e, refl))));
}
