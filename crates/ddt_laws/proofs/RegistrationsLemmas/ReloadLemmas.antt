-- What is carried over where sites are read anew.
use Rattle.std.proofs.Common.{◌≡◌, true, false, List, map, find, Option, Some, None, refl, sym, ap, subst, ◌∙◌, arith}
use Rattle.std.specs.Prelude.{Contains, is_some}
use Rattle.std.specs.Option.{option_map_or}
use Rattle.std.proofs.lemmas.Bool.{false≢true, false_from_ne_true, cond-false}
use Rattle.ddt_path.specs.Covers.{is_same_path}
use Rattle.ddt_path.specs.laws.Cover.{same_path, path_itself}
use Rattle.ddt_path.specs.laws.Member.{IsIn, in_contained, contained, in_get, get_in, in_map, found_in, found_passes, unfound, holds_at}
use Rattle.ddt_path.specs.laws.Filter.{filter_in, in_filter}
use Rattle.ddt_config.specs.Shaped.{have_own_prefixes}
use Rattle.ddt_map_register.specs.MapRegister.{Message}
use Rattle.ddt_node.specs.laws.Changed.{map_kept}
use Rattle.ddt_registrar.specs.Carried.{is_still_key, is_still_under, is_of_key, carried, carried_from}
use Rattle.ddt_registrar.specs.Checks.{key_of, nonce_of}
use Rattle.ddt_registrar.specs.State.{Key, Site}
use Rattle.ddt_registrar.specs.Taking.{after_all}
use Rattle.ddt_laws.specs.Registrations.Steps.{KeysStay, NoMessageIsTakenAfterReload, RevokedKeysEnd}
use Rattle.ddt_laws.proofs.RegistrationsLemmas.JudgedLemmas.{refused, taken_whole, one_site, not_fresh}
use Rattle.ddt_laws.proofs.RegistrationsLemmas.StepLemmas.{remembered, seen_after, nonce_itself, own_stay}

pub revoked : RevokedKeysEnd
revoked b s g k named =
    let kept = is_still_under b.keys s.keys in
    let is : kept g ≡ is_still_key s.keys k = ap (λ (o : Option Key). option_map_or (is_still_key s.keys) o false) named in (
      λ among.
          let p = in_filter kept b.live g (in_contained _ g among) in
          (contained b.live g p.0, sym is ∙ p.1),
      λ both. contained _ g (filter_in kept b.live g (in_contained b.live g both.0) (is ∙ both.1)),
    )

-- ---- sites and their keys

view_case : {B : Type 0} (view : Site → B) → ((b s : Site) → view (carried b s) ≡ view s) → (found : Option Site) (s : Site)
    → view (option_map_or (λ (b : Site). carried b s) found s) ≡ view s
view_case view kept None s = refl
view_case view kept (Some b) s = kept b s

module _ (before : List Site) where
  view_kept : {B : Type 0} (view : Site → B) → ((b s : Site) → view (carried b s) ≡ view s) → (s : Site) → view (carried_from before s) ≡ view s
  view_kept view kept s = view_case view kept (find (λ (b : Site). is_same_path b.prefix s.prefix) before) s

  pub reload_keeps_keys : (sites : List Site) → KeysStay sites (map (carried_from before) sites)
  reload_keeps_keys sites = record {
    prefixes = map_kept (λ (s : Site). s.prefix) (carried_from before) (view_kept (λ (s : Site). s.prefix) (λ b s. refl)) sites;
    keys = map_kept (λ (s : Site). s.keys) (carried_from before) (view_kept (λ (s : Site). s.keys) (λ b s. refl)) sites;
    configured = map_kept (λ (s : Site). s.configured) (carried_from before) (view_kept (λ (s : Site). s.configured) (λ b s. refl)) sites;
    fall_back = map_kept (λ (s : Site). s.falls_back) (carried_from before) (view_kept (λ (s : Site). s.falls_back) (λ b s. refl)) sites;
  }

  -- ---- a site of before

  module _ (own : have_own_prefixes (λ (s : Site). s.prefix) before ≡ true) (b s : Site) (among : IsIn b before) (same : b.prefix ≡ s.prefix) where
    found_case : (found : Option Site) → find (λ (a : Site). is_same_path a.prefix s.prefix) before ≡ found
        → option_map_or (λ (a : Site). carried a s) found s ≡ carried b s
    found_case None none =
        absurd (false≢true (sym (unfound (λ (a : Site). is_same_path a.prefix s.prefix) before b none among) ∙ path_itself b.prefix s.prefix same))
    found_case (Some a) is =
        let has : a.prefix ≡ s.prefix = same_path a.prefix s.prefix (found_passes (λ (c : Site). is_same_path c.prefix s.prefix) before a is) in
        let one : a ≡ b = one_site before own a b (found_in (λ (c : Site). is_same_path c.prefix s.prefix) before a is) among (has ∙ sym same) in
        ap (λ (c : Site). carried c s) one

    carried_of : carried_from before s ≡ carried b s
    carried_of = found_case (find (λ (a : Site). is_same_path a.prefix s.prefix) before) refl

    -- its last nonces are those of a key that there is
    pub nonce_carried : (m : Message) (k : Key) → key_of m.head s.keys ≡ Some k → IsIn (nonce_of m) b.nonces → IsIn (nonce_of m) (carried_from before s).nonces
    nonce_carried m k named seen =
        subst (λ (c : Site). IsIn (nonce_of m) c.nonces) (sym carried_of)
        (filter_in (is_of_key s.keys) b.nonces (nonce_of m) seen (ap (λ (o : Option Key). is_some o) named))

pub not_after_reload : NoMessageIsTakenAfterReload
not_after_reload now m x y before sites key r own e among had has =
    let later = after_all now m x m.records before in
    let was = taken_whole m x before key e r among in
    let place = get_in before was.site (in_contained before was.site was.is_kept) in
    let remembers = remembered m was.site.keys was.key was.named (had was.site was.key was.is_kept was.of_prefix was.of_site was.under) in
    let h = seen_after now m x m.records before place.0 was.site r place.2 remembers (in_contained m.records r among) was.of_prefix in
    refused m y (map (carried_from later) sites) (λ again t.
    let may = taken_whole m y (map (carried_from later) sites) again t r among in
    let origin = in_map (carried_from later) sites may.site (in_contained _ may.site may.is_kept) in
    let s : Site = origin.0 in
    let keys : may.site.keys ≡ s.keys = ap (λ (a : Site). a.keys) origin.2 ∙ view_kept later (λ (a : Site). a.keys) (λ b a. refl) s in
    let prefix : s.prefix ≡ r.prefix =
    sym (view_kept later (λ (a : Site). a.prefix) (λ b a. refl) s) ∙ ap (λ (a : Site). a.prefix) (sym origin.2) ∙ may.of_prefix in
    let named : key_of m.head s.keys ≡ Some may.key = ap (key_of m.head) (sym keys) ∙ may.named in
    let seen = nonce_carried later (own_stay now m x m.records before own) h.site s (in_get later place.0 h.site h.at)
    (h.prefix ∙ was.of_prefix ∙ sym prefix) m may.key named h.seen in
    not_fresh may.key.replay (nonce_of m) (nonce_of m) may.site.nonces
    (has s may.key (contained sites s origin.1) prefix (subst (λ (ks : List Key). Contains ks may.key) keys may.of_site) may.under)
    (subst (λ (a : Site). IsIn (nonce_of m) a.nonces) (sym origin.2) seen) (nonce_itself (nonce_of m)) (omega arith) may.fresh)
