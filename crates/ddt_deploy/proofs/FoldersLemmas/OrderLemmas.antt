-- Items in the order of their prefixes, none of which is there twice: there is one such order.
use Rattle.std.proofs.Common.{◌≡◌, ℕ, suc, ◌<◌, Bool, true, false, cond, List, [], ◌∷◌, length, get_or, IsPermutation, refl, sym, ap, ap₂, subst, ◌∙◌, arith, inl, inr}
use Rattle.std.specs.Prelude.{IsSorted, not}
use Rattle.std.specs.List.{list_any}
use Rattle.std.specs.Ordering.{nat_cmp, is_lt, is_le}
use Rattle.std.specs.Cmp.Lexicographic.{slice_cmp, nat_list_cmp_total, nat_list_eq_equiv}
use Rattle.std.proofs.lemmas.Bool.{both_ways, false_from_ne_true, and_parts, not-true}
use Rattle.std.proofs.lemmas.List.Sorted.{sorted_far, ranks_by, IsPermutation-sym, IsPermutation-refl, IsPermutation-trans, IsPermutation-cons, IsPermutation-insert}
use Rattle.ddt_path.specs.Covers.{is_same_path}
use Rattle.ddt_path.specs.laws.Cover.{path_itself}
use Rattle.ddt_path.specs.laws.Member.{IsIn, moved_in, fails_at}
use Rattle.ddt_path.specs.laws.PathOrder.{IsUpTo, same_from_ties, le-is, up_to_trans, not_lt-from_not_le}
use Rattle.ddt_config.specs.Shaped.{have_own_prefixes}
use Rattle.ddt_config.specs.laws.Neighbour.{two_clash, no_two-IsPermutation}
use Rattle.ddt_deploy.specs.Folders.Ordered.{put_among, by_prefix}

-- the lists have the same items
pub record HaveSame {A : Type 0} (us vs : List A) : Type 0 where
  pub there : (z : A) → IsIn z us → IsIn z vs
  pub back : (z : A) → IsIn z vs → IsIn z us

module _ {A : Type 0} (key : A → List ℕ) where
  -- x stands before y, and its prefix is another
  pub record Stands (x y : A) : Type 0 where
    pub up : IsUpTo (key x) (key y)
    pub apart : is_same_path (key x) (key y) ≡ false

  -- each item stands before all that come after it
  abbrev pub Rises : List A → Type 0
  Rises [] = Unit {0}
  Rises (x ∷ xs) = ((y : A) → IsIn y xs → Stands x y) × Rises xs

  from_places : (xs : List A) → ((i j : ℕ) (d : A) → i < j → j < length xs → Stands (get_or xs i d) (get_or xs j d))
      → Rises xs
  from_places [] h = tt
  from_places (x ∷ xs) h = (
    λ y k. in_places x xs y k (λ j lt. h 0 (suc j) y (omega arith) (omega (arith, lt))),
    from_places xs (λ i j d below inside. h (suc i) (suc j) d (omega arith) (omega arith)),
  )
    where
      in_places : (x : A) (xs : List A) (y : A) → IsIn y xs
          → ((j : ℕ) → j < length xs → Stands x (get_or xs j y)) → Stands x y
      in_places x [] y k at = absurd k
      in_places x (z ∷ xs) y (inl e) at = subst (Stands x) (sym e) (at 0 (omega arith))
      in_places x (z ∷ xs) y (inr k) at = in_places x xs y k (λ j lt. at (suc j) (omega (arith, lt)))

  own_at : (xs : List A) → have_own_prefixes key xs ≡ true → (i j : ℕ) (d : A) → i < j → j < length xs
      → is_same_path (key (get_or xs i d)) (key (get_or xs j d)) ≡ false
  own_at xs own i j d below inside =
      false_from_ne_true (is_same_path (key (get_or xs i d)) (key (get_or xs j d))) (λ e.
      both_ways (have_own_prefixes key xs)
      (two_clash (λ (a b : A). is_same_path (key a) (key b)) xs i j d below inside e) own)

  pub rises : (xs : List A) → IsSorted (λ x y. slice_cmp nat_cmp (key x) (key y)) xs → have_own_prefixes key xs ≡ true
      → Rises xs
  rises xs sorted own =
      from_places xs (λ i j d below inside. record {
        up = sorted_far (λ x y. is_lt (slice_cmp nat_cmp (key x) (key y))) (ranks_by nat_list_cmp_total key) xs sorted i
            j d (omega arith) inside;
        apart = own_at xs own i j d below inside;
      })

  flips : (a b : A) → is_same_path (key a) (key b) ≡ is_same_path (key b) (key a)
  flips a b = nat_list_eq_equiv.symm (key a) (key b)

  pub own_moved : (xs ys : List A) → IsPermutation xs ys → have_own_prefixes key xs ≡ true
      → have_own_prefixes key ys ≡ true
  own_moved xs ys moved own =
      sym (no_two-IsPermutation (λ (a b : A). is_same_path (key a) (key b)) flips xs ys moved) ∙ own

  -- ---- the order that the definition makes

  swapped : (x y : A) (ys : List A) → IsPermutation (x ∷ (y ∷ ys)) (y ∷ (x ∷ ys))
  swapped x y ys = IsPermutation-insert (y ∷ ys) 1 x

  pub put_moves : (x : A) (ys : List A) → IsPermutation (x ∷ ys) (put_among key x ys)
  put_moves x [] = IsPermutation-refl (x ∷ [])
  put_moves x (y ∷ ys) = go (is_le (slice_cmp nat_cmp (key x) (key y))) (put_moves x ys)
    where
      go : (b : Bool) → IsPermutation (x ∷ ys) (put_among key x ys)
          → IsPermutation (x ∷ (y ∷ ys)) (cond b (x ∷ (y ∷ ys)) (y ∷ put_among key x ys))
      go true ih = IsPermutation-refl (x ∷ (y ∷ ys))
      go false ih = IsPermutation-trans (x ∷ (y ∷ ys)) (y ∷ (x ∷ ys)) (y ∷ put_among key x ys) (swapped x y ys)
          (IsPermutation-cons y (x ∷ ys) (put_among key x ys) ih)

  pub order_moves : (xs : List A) → IsPermutation xs (by_prefix key xs)
  order_moves [] = IsPermutation-refl []
  order_moves (x ∷ xs) = IsPermutation-trans (x ∷ xs) (x ∷ by_prefix key xs) (by_prefix key (x ∷ xs))
      (IsPermutation-cons x xs (by_prefix key xs) (order_moves xs)) (put_moves x (by_prefix key xs))

  put_rises : (x : A) (ys : List A) → Rises ys → ((y : A) → IsIn y ys → is_same_path (key x) (key y) ≡ false)
      → Rises (put_among key x ys)
  put_rises x [] up apart = ((λ y k. absurd k), tt)
  put_rises x (y ∷ ys) up apart = go (is_le (slice_cmp nat_cmp (key x) (key y))) refl
      (put_rises x ys up.1 (λ z k. apart z (inr k)))
    where
      before : is_le (slice_cmp nat_cmp (key x) (key y)) ≡ true → (z : A) → IsIn z (y ∷ ys) → Stands x z
      before e z (inl same) = record {
        up = subst (λ (w : A). IsUpTo (key x) (key w)) (sym same) (le-is (key x) (key y) e);
        apart = apart z (inl same);
      }
      before e z (inr later) = record {
        up = up_to_trans (key x) (key y) (key z) (le-is (key x) (key y) e) (up.0 z later).up;
        apart = apart z (inr later);
      }

      behind : is_le (slice_cmp nat_cmp (key x) (key y)) ≡ false → (z : A) → IsIn z (x ∷ ys) → Stands y z
      behind e z (inl same) = record {
        up = subst (λ (w : A). IsUpTo (key y) (key w)) (sym same)
            (not_lt-from_not_le (slice_cmp nat_cmp (key x) (key y)) e);
        apart = ap (λ (w : A). is_same_path (key y) (key w)) same ∙ flips y x ∙ apart y (inl refl);
      }
      behind e z (inr later) = up.0 z later

      go : (b : Bool) → is_le (slice_cmp nat_cmp (key x) (key y)) ≡ b → Rises (put_among key x ys)
          → Rises (cond b (x ∷ (y ∷ ys)) (y ∷ put_among key x ys))
      go true e ih = (before e, up)
      go false e ih = (
        λ z k. behind e z
            (moved_in (put_among key x ys) (x ∷ ys) (IsPermutation-sym (x ∷ ys) (put_among key x ys) (put_moves x ys)) z k),
        ih,
      )

  pub order_rises : (xs : List A) → have_own_prefixes key xs ≡ true → Rises (by_prefix key xs)
  order_rises [] own = tt
  order_rises (x ∷ xs) own =
      let p = and_parts (not (list_any (λ (b : A). is_same_path (key x) (key b)) xs)) (have_own_prefixes key xs) own in
      let none = not-true (list_any (λ (b : A). is_same_path (key x) (key b)) xs) p.0 in
      put_rises x (by_prefix key xs) (order_rises xs p.1)
      (λ y k. fails_at (λ (b : A). is_same_path (key x) (key b)) xs y none
      (moved_in (by_prefix key xs) xs (IsPermutation-sym xs (by_prefix key xs) (order_moves xs)) y k))

  -- ---- and that there is one

  not_itself : (u z : A) → Stands u z → z ≡ u → ⊥
  not_itself u z s e = both_ways (is_same_path (key u) (key z)) s.apart (path_itself (key u) (key z) (ap key (sym e)))

  heads : (u v : A) (us vs : List A) → Rises (u ∷ us) → Rises (v ∷ vs) → IsIn u (v ∷ vs) → IsIn v (u ∷ us) → u ≡ v
  heads u v us vs up vp (inl e) k = e
  heads u v us vs up vp (inr l) (inl e) = sym e
  heads u v us vs up vp (inr l) (inr k) = absurd (both_ways (is_same_path (key u) (key v)) (up.0 v k).apart
      (same_from_ties (key u) (key v) (up.0 v k).up (vp.0 u l).up))

  tail_in : (u v : A) (us vs : List A) → Rises (u ∷ us) → u ≡ v
      → ((z : A) → IsIn z (u ∷ us) → IsIn z (v ∷ vs)) → (z : A) → IsIn z us → IsIn z vs
  tail_in u v us vs up e there z k =
      elim (there z (inr k)) [ inl same ↦ absurd (not_itself u z (up.0 z k) (same ∙ sym e)) | inr later ↦ later ]

  pub one_order : (us vs : List A) → Rises us → Rises vs → HaveSame us vs → us ≡ vs
  one_order [] [] up vp h = refl
  one_order [] (v ∷ vs) up vp h = absurd (h.back v (inl refl))
  one_order (u ∷ us) [] up vp h = absurd (h.there u (inl refl))
  one_order (u ∷ us) (v ∷ vs) up vp h =
      let e = heads u v us vs up vp (h.there u (inl refl)) (h.back v (inl refl)) in
      ap₂ (λ (z : A) (zs : List A). z ∷ zs) e (one_order us vs up.1 vp.1 (record {
        there = tail_in u v us vs up e h.there;
        back = tail_in v u vs us vp (sym e) h.back;
      }))

  -- what a sort makes is this order
  pub sorted_is : (xs ys : List A) → IsPermutation xs ys → IsSorted (λ x y. slice_cmp nat_cmp (key x) (key y)) ys
      → have_own_prefixes key xs ≡ true → ys ≡ by_prefix key xs
  sorted_is xs ys moved sorted own =
      one_order ys (by_prefix key xs) (rises ys sorted (own_moved xs ys moved own)) (order_rises xs own) (record {
        there = λ z k. moved_in xs (by_prefix key xs) (order_moves xs) z
            (moved_in ys xs (IsPermutation-sym xs ys moved) z k);
        back = λ z k. moved_in xs ys moved z
            (moved_in (by_prefix key xs) xs (IsPermutation-sym xs (by_prefix key xs) (order_moves xs)) z k);
      })

  -- lists of the same items have one order
  pub same_order : (xs ys : List A) → have_own_prefixes key xs ≡ true → have_own_prefixes key ys ≡ true
      → HaveSame xs ys → by_prefix key xs ≡ by_prefix key ys
  same_order xs ys own others h =
      let back = λ (zs : List A) (z : A) (k : IsIn z (by_prefix key zs)).
      moved_in (by_prefix key zs) zs (IsPermutation-sym zs (by_prefix key zs) (order_moves zs)) z k in
      one_order (by_prefix key xs) (by_prefix key ys) (order_rises xs own) (order_rises ys others) (record {
        there = λ z k. moved_in ys (by_prefix key ys) (order_moves ys) z (h.there z (back xs z k));
        back = λ z k. moved_in xs (by_prefix key xs) (order_moves xs) z (h.back z (back ys z k));
      })
