-- The next zone towards an identifier, and the zone of one that has no next zone.
use Rattle.std.proofs.Common.{◌≡◌, ℕ, ◌<◌, ◌≤◌, Bool, true, List, length, Some, None, arith, inl, inr}
use Rattle.std.specs.Prelude.{nat_lt}
use Rattle.std.specs.List.{filter}
use Rattle.std.proofs.lemmas.Bool.{cases_lt, lt-ltb, ltb-true, false_from_ne_true}
use Rattle.ddt_path.specs.Covers.{covers}
use Rattle.ddt_register.specs.declared.zone.Zone.{Zone}
use Rattle.ddt_register.specs.declared.register.Register.{Register}
use Rattle.ddt_check.specs.Zones.{zone_of}
use Rattle.ddt_check.specs.Says.{next_zone}
use Rattle.ddt_check.specs.Rules.{IsAccepted}
use Rattle.ddt_check.specs.Assignment.{assignment, assigned_in}
use Rattle.ddt_check.specs.laws.Zone.{zone_prefix, assigned_at}
use Rattle.ddt_path.specs.laws.Member.{IsIn}
use Rattle.ddt_path.specs.declared.matches.Preference.TheVariants.{Longest, Shortest}
use Rattle.ddt_path.specs.laws.Front.{one_front}
use Rattle.ddt_check.specs.laws.Kept.{one_zone}
use Rattle.ddt_path.specs.laws.Filter.{in_filter, filter_in}
use Rattle.ddt_path.specs.laws.Matching.{best_is, best_member, best_none, best_unbeaten, best_there}

abbrev is_longer : ℕ → Zone → Bool
is_longer n z = nat_lt n (length z.prefix)

module _ (r : Register) (n : ℕ) (x : List ℕ) where
  pub next_is : (c : Zone) → next_zone r n x ≡ Some c → IsIn c r.zones × (n < length c.prefix) × (covers c.prefix x ≡ true)
  next_is c e =
      let p = best_member Shortest zone_prefix x (filter (is_longer n) r.zones) c e in
      let q = in_filter (is_longer n) r.zones c p.0 in
      (q.0, ltb-true n (length c.prefix) q.1, p.1)

  pub next_least : (c z : Zone) → next_zone r n x ≡ Some c → IsIn z r.zones → covers z.prefix x ≡ true → n < length z.prefix → length c.prefix ≤ length z.prefix
  next_least c z e k a lt = best_unbeaten Shortest zone_prefix x (filter (is_longer n) r.zones) c z e (filter_in (is_longer n) r.zones z k (lt-ltb n (length z.prefix) lt)) a

  pub no_next : (z : Zone) → next_zone r n x ≡ None → IsIn z r.zones → covers z.prefix x ≡ true → length z.prefix ≤ n
  no_next z e k a =
      elim (cases_lt n (length z.prefix)) [
        | inl lt ↦ absurd (best_there Shortest zone_prefix x (filter (is_longer n) r.zones) z e (filter_in (is_longer n) r.zones z k (lt-ltb n (length z.prefix) lt)) a)
        | inr le ↦ le
      ]

  pub next_none : ((z : Zone) → IsIn z r.zones → covers z.prefix x ≡ true → length z.prefix ≤ n) → next_zone r n x ≡ None
  next_none h =
      best_none Shortest zone_prefix x (filter (is_longer n) r.zones) (λ z k. false_from_ne_true (covers z.prefix x) (λ a.
      let q = in_filter (is_longer n) r.zones z k in
      let lt = ltb-true n (length z.prefix) q.1 in
      let le = h z q.0 a in
      absurd (omega arith)))

-- a zone with no next zone is the zone of the identifier
pub zone_is : (r : Register) → IsAccepted r → (p : Zone) (x : List ℕ) → IsIn p r.zones → covers p.prefix x ≡ true → next_zone r (length p.prefix) x ≡ None → zone_of r x ≡ Some p
zone_is r accepted p x k c e =
    best_is Longest zone_prefix x r.zones p k c (λ b j d.
    let le = no_next r (length p.prefix) x b e j d in
    elim (cases_lt (length b.prefix) (length p.prefix)) [
      | inl lt ↦ inr lt
      | inr ge ↦ inl (one_zone r accepted b p j k (one_front b.prefix p.prefix x d c (omega arith)))
    ])

-- so the assignment is decided in it
pub assigned_here : (r : Register) → IsAccepted r → (p : Zone) (x : List ℕ) → IsIn p r.zones → covers p.prefix x ≡ true → next_zone r (length p.prefix) x ≡ None → assignment r x ≡ assigned_in r p p.kind x
assigned_here r accepted p x j c e = assigned_at r x p (zone_is r accepted p x j c e)
