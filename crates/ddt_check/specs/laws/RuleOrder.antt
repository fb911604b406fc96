-- The rules in the order of their numbers. No lemma says how many there are.
use Rattle.std.proofs.Common.{◌≡◌, ◌==◌, ℕ, ◌+◌, ◌-◌, ◌<◌, ◌≤◌, true, length, get_or, refl, sym, ap, ◌∙◌, arith}
use Rattle.std.proofs.lemmas.Bool.{agree_below_at, eqb-true}
use Rattle.ddt_path.specs.laws.Member.{IsIn, in_at}
use Rattle.ddt_register.specs.laws.RowOrder.{Rising, rising_from_rise}
use Rattle.ddt_check.specs.declared.fault.Rule.{Rule}
use Rattle.ddt_check.specs.Rules.{all_rules, rule_number}

-- the rule of each number
in_order : (one : Rule) (d : Rule) → get_or all_rules (rule_number one - 1) d ≡ one
in_order one d = grind arith

in_bounds : (one : Rule) → rule_number one - 1 < length all_rules
in_bounds one = grind arith

pub same_at : (one : Rule) (i : ℕ) (d : Rule) → rule_number one ≡ i + 1 → get_or all_rules i d ≡ one
same_at one i d e = let same : i ≡ rule_number one - 1 = omega arith in rw same (in_order one d)

-- the number of the rule at each place
number_at : (i : ℕ) (d : Rule) → i < length all_rules → rule_number (get_or all_rules i d) ≡ i + 1
number_at i d lt = eqb-true (rule_number (get_or all_rules i d)) (i + 1)
    (agree_below_at (λ k. rule_number (get_or all_rules k d) == k + 1) (λ _. true) (length all_rules) i refl lt)

pub up_to : (earlier : Rule) (i : ℕ) (d : Rule) → i < length all_rules
    → rule_number earlier < rule_number (get_or all_rules i d) → rule_number earlier ≤ i
up_to earlier i d lt below = let at = number_at i d lt in omega arith

-- no two rules have one number
pub same_rule : (a b : Rule) → rule_number a ≡ rule_number b → a ≡ b
same_rule a b e = sym (in_order a a) ∙ ap (λ (k : ℕ). get_or all_rules (k - 1) a) e ∙ in_order b a

-- no rule is left out
pub each_rule : (one : Rule) → IsIn one all_rules
each_rule one = in_at all_rules (rule_number one - 1) one (in_bounds one) (sym (in_order one one))

pub rules_rise : Rising rule_number all_rules
rules_rise = rising_from_rise rule_number all_rules 0 refl
