-- Lists by their keys: as a loop over the items puts each behind the list of its key, or takes out the list of each.
use Rattle.std.proofs.Common.{◌≡◌, ℕ, ◌+◌, ◌<◌, Bool, true, false, List, [], ◌∷◌, ◌++◌, length, map, take, drop, get_or, refl, sym, ap, subst, ◌∙◌, inr}
use Rattle.std.specs.List.{filter}
use Rattle.std.specs.Ordering.{nat_cmp, eq_by_cmp}
use Rattle.std.specs.Cmp.Lexicographic.{slice_cmp, texts_ties}
use Rattle.std.specs.Option.{option_map_or}
use Rattle.std.specs.Map.{lookup}
use Rattle.std.specs.BTreeMap.{BTreeMap, is_at}
use Rattle.std.specs.Global.{Vec}
use Rattle.ddt_path.specs.Covers.{is_same_path}
use Rattle.ddt_path.specs.laws.Cover.{same_path}
use Rattle.ddt_path.specs.laws.Filter.{one_made, none_made}
use Rattle.ddt_path.specs.laws.Member.{IsIn, in_at, in_left, in_later}
use Rattle.ddt_register.specs.Rows.{rise}
use Rattle.ddt_register.specs.laws.Rising.{later_row}
use Rattle.ddt_compile.specs.Lists.{list_at}

abbrev Lists : Type 0 → Type 0
Lists V = BTreeMap (List ℕ) (Vec V)

abbrev list_of : {V : Type 0} → Lists V → List ℕ → List V
list_of lists key = list_at (slice_cmp nat_cmp) lists key

-- another key has the list that it had
abbrev AreOthersSame : {V : Type 0} → List ℕ → Lists V → Lists V → Type 0
AreOthersSame own old new = (k : List ℕ) → eq_by_cmp (slice_cmp nat_cmp) own k ≡ false → list_of new k ≡ list_of old k

-- no list is at a key of an empty map
pub list_at-empty : {V : Type 0} (lists : Lists V) (key : List ℕ) → lists.entries ≡ [] → list_of lists key ≡ []
list_at-empty {V} lists key e =
    ap (λ (es : List (List ℕ × Vec V)). option_map_or (λ (list : Vec V). list.items) (lookup (is_at (slice_cmp nat_cmp key)) es) []) e

-- from the i-th item on the list of each of which P holds is the one that it is to have
abbrev pub AreLeft : {A V : Type 0} → (A → List ℕ) → (A → List V) → (A → Type 0) → List A → ℕ → Lists V → Type 0
AreLeft key want P xs i lists = (a : _) → IsIn a (drop i xs) → P a → list_of lists (key a) ≡ want a

module _ {A V : Type 0} (xs : List A) (i : ℕ) (x : A) (lt : i < length xs) (is : x ≡ get_or xs i x) (old : Lists V) where
  -- the list at a key, after the value of one more item was put behind the list of its own key
  pub grown : (f : A → V) (test : A → Bool) (new : Lists V) (own key : List ℕ) (v : V) → v ≡ f x → is_same_path own key ≡ test x
      → list_of new own ≡ list_of old own ++ v ∷ []
      → AreOthersSame own old new → list_of old key ≡ map f (filter test (take i xs)) → list_of new key ≡ map f (filter test (take (i + 1) xs))
  grown f test new own key v made tested here elsewhere before = by_test (is_same_path own key) refl
    where
      by_test : (b : Bool) → is_same_path own key ≡ b → list_of new key ≡ map f (filter test (take (i + 1) xs))
      by_test true e =
          subst (λ (k : List ℕ). list_of new k ≡ list_of old k ++ v ∷ []) (same_path own key e) here
          ∙ ap (λ (vs : List V). vs ++ v ∷ []) before
          ∙ ap (λ (w : V). map f (filter test (take i xs)) ++ w ∷ []) made
          ∙ one_made test xs i x lt is f (sym tested ∙ e)
      by_test false e = elsewhere key (sym (texts_ties own key) ∙ e) ∙ before ∙ none_made test xs i x lt is f (sym tested ∙ e)

  module _ (key : A → List ℕ) (want : A → List V) (P : A → Type 0) (left : AreLeft key want P xs i old) where
    pub left_alone : AreLeft key want P xs (i + 1) old
    left_alone = λ a k holds. left a (in_left xs i x a lt is (inr k)) holds

    -- after the list of the item was taken out
    pub left_others : (row : A → ℕ) → rise 0 (map row xs) ≡ true → ((a b : A) → IsIn a xs → IsIn b xs → row a < row b → is_same_path (key a) (key b) ≡ false)
        → (new : Lists V) → AreOthersSame (key x) old new → AreLeft key want P xs (i + 1) new
    left_others row rises apart new elsewhere = λ a k holds.
        elsewhere (key a) (sym (texts_ties (key x) (key a)) ∙ apart x a (in_at xs i x lt is) (in_later xs (i + 1) a k) (later_row row xs 0 i x a rises lt is k))
        ∙ left_alone a k holds
