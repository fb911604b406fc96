-- What changes do, counted one after the other.
use Rattle.std.proofs.Common.{◌≡◌, ◌∙◌, ℕ, ◌+◌, ◌-◌, ◌^◌, min, Bool, true, false, cond, List, [], ◌∷◌, fold, refl, ap, arith}
use Rattle.std.specs.Prelude.{◌||◌, Ok}
use Rattle.std.specs.List.{list_any}
use Rattle.ddt_plan.specs.declared.change_list.Change.{Change}
use Rattle.ddt_plan.specs.Sinks.{HasTaken}
use Rattle.ddt_plan_commands.specs.declared.effects.Effects.{Effects}
use Rattle.ddt_plan_commands.specs.declared.extent.Extent.{Extent}
use Rattle.ddt_plan_commands.specs.Effects.{CountsEffect, becomes_hole, capped, changes_servers, effects_of, extent_of, extent_with, ipv4_in, ipv6_in, loses_registration}
use Rattle.ddt_plan_commands.specs.Written.{has_some, was_negative}

min_more : (m n x : ℕ) → min (min n m + x) m ≡ min (n + x) m
min_more m n x = omega arith

cap_more : (n x : ℕ) → capped (capped n + x) ≡ capped (n + x)
cap_more n x = min_more (2 ^ 128 - 1) n x

-- so many blocks and addresses, cut to what a number holds
abbrev cut : ℕ → ℕ → ℕ → Extent
cut b i j = record { blocks = capped b; ipv4 = capped i; ipv6 = capped j }

module _ (counts : Change → Bool) where
  abbrev more_blocks : ℕ → Change → ℕ
  more_blocks n c = n + cond (counts c) 1 0

  abbrev more_ipv4 : ℕ → Change → ℕ
  more_ipv4 n c = n + cond (counts c) (ipv4_in c.prefix) 0

  abbrev more_ipv6 : ℕ → Change → ℕ
  more_ipv6 n c = n + cond (counts c) (ipv6_in c.prefix) 0

  -- an extent with all changes that count
  abbrev extent_with_all : Extent → List Change → Extent
  extent_with_all e [] = e
  extent_with_all e (c ∷ cs) = extent_with_all (extent_with e (counts c) c.prefix) cs

  one_more : (b i j : ℕ) (c : Change) → extent_with (cut b i j) (counts c) c.prefix ≡ cut (more_blocks b c) (more_ipv4 i c) (more_ipv6 j c)
  one_more b i j c =
      ap (λ (n : ℕ). let e : Extent = record { blocks = n; ipv4 = capped (capped i + cond (counts c) (ipv4_in c.prefix) 0); ipv6 = capped (capped j + cond (counts c) (ipv6_in c.prefix) 0) } in e)
      (cap_more b (cond (counts c) 1 0))
      ∙ ap (λ (n : ℕ). let e : Extent = record { blocks = capped (more_blocks b c); ipv4 = n; ipv6 = capped (capped j + cond (counts c) (ipv6_in c.prefix) 0) } in e)
      (cap_more i (cond (counts c) (ipv4_in c.prefix) 0))
      ∙ ap (λ (n : ℕ). let e : Extent = record { blocks = capped (more_blocks b c); ipv4 = capped (more_ipv4 i c); ipv6 = n } in e)
      (cap_more j (cond (counts c) (ipv6_in c.prefix) 0))

  all_more : (all : List Change) (b i j : ℕ) → extent_with_all (cut b i j) all ≡ cut (fold more_blocks b all) (fold more_ipv4 i all) (fold more_ipv6 j all)
  all_more [] b i j = refl
  all_more (c ∷ cs) b i j =
      ap (λ (e : Extent). extent_with_all e cs) (one_more b i j c) ∙ all_more cs (more_blocks b c) (more_ipv4 i c) (more_ipv6 j c)

  pub extent_is : (all : List Change) → extent_with_all (cut 0 0 0) all ≡ extent_of counts all
  extent_is all = all_more all 0 0 0

abbrev effects_with_all : Bool → Bool → Extent → Extent → Extent → List Change → Effects
effects_with_all s n h u m all = record {
  some = s || has_some all;
  negative = n || list_any was_negative all;
  holes = extent_with_all becomes_hole h all;
  unregistered = extent_with_all loses_registration u all;
  moved = extent_with_all changes_servers m all;
}

or_none : (a : Bool) → a ≡ (a || false)
or_none true = refl
or_none false = refl

or_any : (a : Bool) → true ≡ (a || true)
or_any true = refl
or_any false = refl

or_both : (a b c : Bool) → ((a || b) || c) ≡ (a || (b || c))
or_both true b c = refl
or_both false b c = refl

abbrev some_and : Bool → Bool → Extent → Extent → Extent → Effects
some_and s n h u m = record { some = s; negative = n; holes = h; unregistered = u; moved = m }

taken : (all : List Change) (s n : Bool) (h u m : Extent) (before after : Effects) → before ≡ some_and s n h u m → HasTaken CountsEffect before all after
    → after ≡ effects_with_all s n h u m all
taken [] s n h u m before after is so =
    so ∙ is ∙ ap (λ (b : Bool). some_and b n h u m) (or_none s) ∙ ap (λ (b : Bool). some_and (s || false) b h u m) (or_none n)
taken (c ∷ cs) s n h u m before after is so =
    taken cs true (n || was_negative c) (extent_with h (becomes_hole c) c.prefix) (extent_with u (loses_registration c) c.prefix) (extent_with m (changes_servers c) c.prefix)
    so.0 after (so.1 ∙ rw is refl) so.2
    ∙ ap (λ (b : Bool). some_and b ((n || was_negative c) || list_any was_negative cs) (extent_with_all becomes_hole (extent_with h (becomes_hole c) c.prefix) cs) (extent_with_all loses_registration (extent_with u (loses_registration c) c.prefix) cs) (extent_with_all changes_servers (extent_with m (changes_servers c) c.prefix) cs))
    (or_any s)
    ∙ ap (λ (b : Bool). some_and (s || true) b (extent_with_all becomes_hole (extent_with h (becomes_hole c) c.prefix) cs) (extent_with_all loses_registration (extent_with u (loses_registration c) c.prefix) cs) (extent_with_all changes_servers (extent_with m (changes_servers c) c.prefix) cs))
    (or_both n (was_negative c) (list_any was_negative cs))

-- what counts all changes from nothing on has what they do
pub taken_effects : (all : List Change) (before after : Effects) → before ≡ some_and false false (cut 0 0 0) (cut 0 0 0) (cut 0 0 0) → HasTaken CountsEffect before all after
    → after ≡ effects_of all
taken_effects all before after none so =
    taken all false false (cut 0 0 0) (cut 0 0 0) (cut 0 0 0) before after none so
    ∙ ap (λ (e : Extent). some_and (has_some all) (list_any was_negative all) e (extent_with_all loses_registration (cut 0 0 0) all) (extent_with_all changes_servers (cut 0 0 0) all))
    (extent_is becomes_hole all)
    ∙ ap (λ (e : Extent). some_and (has_some all) (list_any was_negative all) (extent_of becomes_hole all) e (extent_with_all changes_servers (cut 0 0 0) all))
    (extent_is loses_registration all)
    ∙ ap (λ (e : Extent). some_and (has_some all) (list_any was_negative all) (extent_of becomes_hole all) (extent_of loses_registration all) e)
    (extent_is changes_servers all)
