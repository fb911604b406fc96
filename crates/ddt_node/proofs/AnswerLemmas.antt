-- The answer from the authority that was found.
use Rattle.std.proofs.Common.{◌≡◌, ℕ, Bool, false, arith, eqb-true, ◌<◌, List, map, get_or, Some, Option, None, [], ◌∷◌, length, cond, refl, sym, ap, ◌∙◌}
use Rattle.std.specs.Prelude.{◌==◌, is_some, option_and_then, slice_get, unwrap_or}
use Rattle.std.specs.FinMap.{FinMap, keys}
use Rattle.std.specs.Option.{option_map, option_map_or}
use Rattle.std.proofs.lemmas.Bool.{false_from_ne_true}
use Rattle.ddt_path.specs.declared.locator.Locator.{Locator}
use Rattle.ddt_path.specs.declared.record.ReferralRecord.{ReferralRecord}
use Rattle.ddt_path.specs.declared.record.Outcome.{Outcome}
use Rattle.ddt_path.specs.declared.record.Outcome.TheVariants.{Registered, NotRegistered, Hole}
use Rattle.ddt_path.specs.Records.{record_of, referral, not_authoritative}
use Rattle.ddt_path.specs.declared.record.Role.{Role}
use Rattle.ddt_path.specs.declared.record.Role.TheVariants.{Node, Ms}
use Rattle.ddt_config.specs.declared.child.Child.{Child}
use Rattle.ddt_config.specs.declared.site_entry.SiteEntry.{SiteEntry}
use Rattle.ddt_config.specs.declared.authority.Content.{Content}
use Rattle.ddt_config.specs.declared.authority.Content.TheVariants.{Children, Sites}
use Rattle.ddt_path.specs.Free.{hole_of}
use Rattle.ddt_path.specs.Matching.{longest_match}
use Rattle.ddt_config.specs.declared.authority.Authority.{Authority}
use Rattle.ddt_config.specs.Table.{Outline}
use Rattle.ddt_config.specs.Answer.{answer, answer_in, site_outcome, strictly_below, referral_to}
use Rattle.ddt_trie.specs.PrefixMap.{path_cmp}
use Rattle.ddt_node.specs.Places.{places}
use Rattle.ddt_node.proofs.PlaceLemmas.{free_of_places, free_below_of_places, found_at}
use Rattle.ddt_node.specs.Server.{authority_of, etr_in, first_etr, is_ack}
use Rattle.ddt_node.specs.declared.forward.Forward.{Forward}

module _ (c d : Outline) (x : List ℕ) (a : Authority) (found : authority_of c x ≡ Some a) (same : c ≡ d) where
  pub answer_from : (r : ReferralRecord) → r ≡ answer_in c.locators a.prefix a.content x → r ≡ answer d x
  answer_from r is =
      is ∙ ap (λ (o : Option Authority). option_map_or (λ b. answer_in c.locators b.prefix b.content x) o (not_authoritative x)) (sym found) ∙ ap (λ (o : Outline). answer o x) same

  pub etr_from : (r : Option Locator) → r ≡ etr_in x a.content → r ≡ first_etr d x
  etr_from r is = is ∙ ap (option_and_then (λ (b : Authority). etr_in x b.content)) (sym found) ∙ ap (λ (o : Outline). first_etr o x) same

-- there is an ETR to send to if and only if the answer is MS-ACK
site_acknowledged : (servers : List Locator) (sites : List (List ℕ)) (x : List ℕ) (s : SiteEntry) → is_some (slice_get s.etrs 0) ≡ is_ack (record_of (site_outcome servers sites x s)).action
site_acknowledged servers sites x s = by_etrs (hole_of s.prefix (strictly_below s.prefix sites) x) s.etrs
  where
    by_etrs : (part : List ℕ) (etrs : List Locator) → is_some (slice_get etrs 0) ≡ is_ack (record_of (cond (length etrs == 0) (NotRegistered part servers) (Registered s.prefix servers))).action
    by_etrs part [] = refl
    by_etrs part (l ∷ others) =
        let some : (length (l ∷ others) == 0) ≡ false = false_from_ne_true (length (l ∷ others) == 0) (λ e. let none : length (l ∷ others) ≡ 0 = eqb-true (length (l ∷ others)) 0 e in absurd (omega arith)) in
        ap (λ (b : Bool). is_ack (record_of (cond b (NotRegistered part servers) (Registered s.prefix servers))).action) (sym some)

referral_unacknowledged : (role : Role) (prefix : List ℕ) (servers : List Locator) → false ≡ is_ack (referral role prefix servers).action
referral_unacknowledged Node prefix servers = refl
referral_unacknowledged Ms prefix servers = refl

content_acknowledged : (servers : List Locator) (authority : List ℕ) (content : Content) (x : List ℕ) → is_some (etr_in x content) ≡ is_ack (answer_in servers authority content x).action
content_acknowledged servers authority (Children cs) x = by_child (longest_match (λ c. c.prefix) cs x)
  where
    by_child : (o : Option Child) → false ≡ is_ack (option_map_or referral_to o (record_of (Hole (hole_of authority (map (λ c. c.prefix) cs) x)))).action
    by_child None = refl
    by_child (Some c) = referral_unacknowledged c.role c.prefix c.locators
content_acknowledged servers authority (Sites ss) x = by_site (map (λ s. s.prefix) ss) (longest_match (λ s. s.prefix) ss x)
  where
    by_site : (prefixes : List (List ℕ)) (o : Option SiteEntry)
        → is_some (option_and_then (λ s. slice_get s.etrs 0) o) ≡ is_ack (record_of (option_map_or (site_outcome servers prefixes x) o (Hole (hole_of authority prefixes x)))).action
    by_site prefixes None = refl
    by_site prefixes (Some s) = site_acknowledged servers prefixes x s

mapped : (f : Locator → Forward) (o : Option Locator) → is_some (option_map f o) ≡ is_some o
mapped f None = refl
mapped f (Some l) = refl

pub acknowledged : (c : Outline) (x : List ℕ) (f : Locator → Forward) → is_some (option_map f (first_etr c x)) ≡ is_ack (answer c x).action
acknowledged c x f = mapped f (first_etr c x) ∙ by_authority (authority_of c x)
  where
    by_authority : (o : Option Authority) → is_some (option_and_then (λ a. etr_in x a.content) o) ≡ is_ack (option_map_or (λ a. answer_in c.locators a.prefix a.content x) o (not_authoritative x)).action
    by_authority None = refl
    by_authority (Some a) = content_acknowledged c.locators a.prefix a.content x

-- ---- where nothing was found

module _ (servers : List Locator) (authority : List ℕ) (x : List ℕ) (m : FinMap path_cmp ℕ) where
  pub no_child_answer : (cs : List Child) → m ≡ places (map (λ c. c.prefix) cs) → longest_match (λ c. c.prefix) cs x ≡ None
      → record_of (Hole (hole_of authority (keys m) x)) ≡ answer_in servers authority (Children cs) x
  no_child_answer cs is none =
      ap (λ (p : Option (List ℕ)). record_of (Hole (unwrap_or p x))) (free_of_places m (map (λ c. c.prefix) cs) is authority x)
      ∙ ap (λ (o : Option Child). option_map_or referral_to o (record_of (Hole (hole_of authority (map (λ c. c.prefix) cs) x)))) (sym none)

  pub no_site_answer : (ss : List SiteEntry) → m ≡ places (map (λ s. s.prefix) ss) → longest_match (λ s. s.prefix) ss x ≡ None
      → record_of (Hole (hole_of authority (keys m) x)) ≡ answer_in servers authority (Sites ss) x
  no_site_answer ss is none =
      ap (λ (p : Option (List ℕ)). record_of (Hole (unwrap_or p x))) (free_of_places m (map (λ s. s.prefix) ss) is authority x)
      ∙ ap (λ (o : Option SiteEntry). record_of (option_map_or (site_outcome servers (map (λ s. s.prefix) ss) x) o (Hole (hole_of authority (map (λ s. s.prefix) ss) x)))) (sym none)

-- ---- the site that was found

module _ (servers : List Locator) (m : FinMap path_cmp ℕ) (ss : List SiteEntry) (is : m ≡ places (map (λ s. s.prefix) ss)) (x : List ℕ) where
  -- its outcome by the map is that by the list
  outcome_by_map : (s : SiteEntry) → site_outcome servers (keys m) x s ≡ site_outcome servers (map (λ t. t.prefix) ss) x s
  outcome_by_map s =
      ap (λ (p : Option (List ℕ)). cond (length s.etrs == 0) (NotRegistered (unwrap_or p x) servers) (Registered s.prefix servers)) (free_below_of_places m (map (λ t. t.prefix) ss) is s.prefix x)

  pub site_answer : (authority : List ℕ) (i : ℕ) (s : SiteEntry) (o : Outcome) → longest_match (λ t. t.prefix) ss x ≡ slice_get ss i → i < length ss → s ≡ get_or ss i s → o ≡ site_outcome servers (keys m) x s
      → record_of o ≡ answer_in servers authority (Sites ss) x
  site_answer authority i s o found inside read e =
      ap record_of (e ∙ outcome_by_map s)
      ∙ ap (λ (f : Option SiteEntry). record_of (option_map_or (site_outcome servers (map (λ t. t.prefix) ss) x) f (Hole (hole_of authority (map (λ t. t.prefix) ss) x)))) (sym (found_at (λ t. t.prefix) ss x i s found inside read))

pub site_etr : (ss : List SiteEntry) (x : List ℕ) (i : ℕ) (s : SiteEntry) (e : Option Locator) → longest_match (λ t. t.prefix) ss x ≡ slice_get ss i → i < length ss → s ≡ get_or ss i s → e ≡ slice_get s.etrs 0 → e ≡ etr_in x (Sites ss)
site_etr ss x i s e found inside read is = is ∙ ap (option_and_then (λ (t : SiteEntry). slice_get t.etrs 0)) (sym (found_at (λ t. t.prefix) ss x i s found inside read))
