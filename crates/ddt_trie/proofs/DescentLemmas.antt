-- The way down along a path, on which the last value that was met is kept.
use Rattle.std.proofs.Common.{◌≡◌, ℕ, ◌+◌, List, [], Some, None, Option, Bor, inl, inr}
use Rattle.std.specs.Prelude.{◌⊎◌, IfSome, IfNone}
use Rattle.ddt_trie.specs.declared.tree.Tree.{Tree}
use Rattle.ddt_trie.specs.Tree.{lookup, IsUncovered, IsLongestBelow}
use Rattle.ddt_trie.proofs.TreeLemmas.{IsStep, longest_step, longest_here, longest_end, uncovered_step, uncovered_end}

-- From the subtree s at the depth `low` on: what is the longest there, or else the last value that was met, is the
-- longest of t; if there is neither, nothing in t is.
pub record IsOnTheWay {V : Type 0} (at : ℕ) (t : Tree V) (y : List ℕ) (low : ℕ) (s : Tree V) (r : List ℕ)
    (met : Option (ℕ × Bor V)) : Type 0 where
  pub below : (n : ℕ) (v : V) → IsLongestBelow low s r n v → IsLongestBelow at t y n v
  pub last : IsUncovered low s r → IfSome met (λ f. IsLongestBelow at t y f.0 f.1.now)
  pub none : IsUncovered low s r → IfNone met (IsUncovered at t y)

-- what was met behind s: its value, if it has one
abbrev pub IsMetNext : {V : Type 0} → ℕ → Tree V → Option (ℕ × Bor V) → Option (ℕ × Bor V) → Type 0
IsMetNext {V} low s met next =
    ((b : Bor V) × (lookup low s [] ≡ Some b.now) × (next ≡ Some (low, b)))
    ⊎ ((lookup low s [] ≡ None) × (next ≡ met))

pub start : {V : Type 0} (at : ℕ) (t : Tree V) (y : List ℕ) → IsOnTheWay at t y at t y None
start at t y = record { below = λ n v l. l; last = λ u. record {}; none = λ u. u }

module _ {V : Type 0} {at : ℕ} {t : Tree V} {y : List ℕ} {low : ℕ} {s : Tree V} {r : List ℕ} {met : Option (ℕ × Bor V)}
    (w : IsOnTheWay at t y low s r met) where
  abbrev pub Found : Option (ℕ × Bor V) → Type 0
  Found o = IfSome o (λ f. IsLongestBelow at t y f.0 f.1.now)

  pub found_at_end : {next : Option (ℕ × Bor V)} → r ≡ [] → IsMetNext low s met next → Found next
  found_at_end ends m = elim m [
    | inl f ↦ rw f.2 (w.below low f.0.now (longest_end ends f.0.now f.1))
    | inr f ↦ rw f.1 (w.last (uncovered_end ends f.0))
  ]

  pub go_on : {u : Tree V} {q : List ℕ} {next : Option (ℕ × Bor V)} → IsStep low s r u q → IsMetNext low s met next
      → IsOnTheWay at t y (low + 1) u q next
  go_on step m = record {
    below = λ n v l. w.below n v (longest_step step n v l);
    last = λ free. elim m [
      | inl f ↦ rw f.2 (w.below low f.0.now (longest_here step f.0.now f.1 free))
      | inr f ↦ rw f.1 (w.last (uncovered_step step f.0 free))
    ];
    none = λ free. elim m [
      | inl f ↦ rw f.2 record {}
      | inr f ↦ rw f.1 (w.none (uncovered_step step f.0 free))
    ];
  }
