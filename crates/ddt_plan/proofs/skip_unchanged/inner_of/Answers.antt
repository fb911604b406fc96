use Rattle.std.proofs.Common.{◌≡◌, ℕ, List, Option, Some, true, subst, ◌∙◌, rules}
use Rattle.std.proofs.lemmas.Option.{same_Some}
use Rattle.ddt_path.specs.Covers.{is_strictly_below}
use Rattle.ddt_plan.specs.Differing.{is_within}
use Rattle.ddt_plan.proofs.skip_unchanged.inner_of.Goals as goal

pub cover_of-old_zones-requires : goal.cover_of-old_zones-requires
cover_of-old_zones-requires c = c.requires.old.1.zones.in_order

pub cover_of-old_items-requires : goal.cover_of-old_items-requires
cover_of-old_items-requires c = c.requires.old.1.sites.in_order

pub cover_of-new_zones-requires : goal.cover_of-new_zones-requires
cover_of-new_zones-requires c = c.requires.new.1.zones.in_order

pub cover_of-requires : goal.cover_of-requires
cover_of-requires c = let ordered = c.requires.new.1.sites.in_order in search rules

pub returns-then-are_same-2 : goal.returns-then-are_same-2
returns-then-are_same-2 c = λ inner e.
    let found : c.cover_of.result ≡ Some c.in_ok-inner.inner = search rules in
    let is : c.cover_of.result ≡ Some inner = found ∙ e in
    let first = c.cover_of-old_zones.ensures in
    let second = c.cover_of-old_items.ensures in
    let third = c.cover_of-new_zones.ensures in
    let fourth = c.cover_of.ensures in
    let at_last : (p : List ℕ) → is_within c.cover_of.result p ≡ true → is_within (Some inner) p ≡ true =
    λ p w. subst (λ (o : Option (List ℕ)). is_within o p ≡ true) is w in
    record {
      below = subst (λ (l : List ℕ). is_strictly_below l c.args.whole ≡ true) (same_Some c.in_ok-inner.inner inner e) (search rules);
      zone = search rules;
      site = c.are_same-then-are_same.ensures.0 c.if-are_same-2.true;
      old_zones = λ z k. at_last z.prefix (fourth.1 z.prefix (third.1 z.prefix (second.1 z.prefix (first.0 z k))));
      old_sites = λ m k. at_last m.prefix (fourth.1 m.prefix (third.1 m.prefix (second.0 m k)));
      new_zones = λ z k. at_last z.prefix (fourth.1 z.prefix (third.0 z k));
      new_sites = λ m k. at_last m.prefix (search (rules, fourth.0));
    }
