-- What a message that is taken changes of sites, and what the clock does.
use Rattle.std.proofs.Common.{◌≡◌, ℕ, Bool, true, false, not, cond, List, [], ◌∷◌, ◌==◌, ◌&&◌, map, Option, Some, None, refl, sym, ap, subst, ◌∙◌, arith, inl, inr}
use Rattle.std.specs.Prelude.{Contains, slice_get}
use Rattle.std.specs.List.{filter}
use Rattle.std.specs.Option.{option_map, option_map_or}
use Rattle.std.proofs.lemmas.Bool.{false_from_ne_true, false≢true, cond-true, cond-false, ltb-true, lt-ltb, and_from, not_from_false}
use Rattle.std.proofs.lemmas.Option.{slice_get-map}
use Rattle.ddt_path.specs.Covers.{is_same_path}
use Rattle.ddt_path.specs.laws.Cover.{same_path, path_itself, eqb_self}
use Rattle.ddt_path.specs.laws.Member.{IsIn, in_contained, contained, in_get, get_in}
use Rattle.ddt_path.specs.laws.Filter.{in_filter, filter_in}
use Rattle.ddt_config.specs.Shaped.{have_own_prefixes}
use Rattle.ddt_map_register.specs.declared.map_register.XtrId.{XtrId}
use Rattle.ddt_map_register.specs.MapRegister.{Message}
use Rattle.ddt_map_register.specs.RegisterRecord.{RegisterRecord}
use Rattle.ddt_node.specs.laws.Changed.{at_prefix, map_kept, no_two_kept}
use Rattle.ddt_registrar.specs.declared.sender.Sender.{Sender}
use Rattle.ddt_registrar.specs.declared.registration.LastNonce.{LastNonce}
use Rattle.ddt_registrar.specs.declared.key.Replay.TheVariants.{Increasing}
use Rattle.ddt_registrar.specs.Checks.{key_of, nonce_of, is_increasing, is_remembered}
use Rattle.ddt_registrar.specs.Lists.{put_by}
use Rattle.ddt_registrar.specs.Registration.{is_same_registrant, is_of_same_xtr, is_in_force}
use Rattle.ddt_registrar.specs.Sender.{is_same_sender, is_same_id}
use Rattle.ddt_registrar.specs.State.{Key, Registration, Site}
use Rattle.ddt_registrar.specs.Taking.{registration_of, live_after, site_after, sites_after, after_all, site_at}
use Rattle.ddt_laws.specs.Registrations.Steps.{OnlyUnderItsOwnKey, OthersStayRegistered, NoNonceIsForgotten, WhatIsOverIsGone, KeysStay, NoMessageIsTakenTwice}
use Rattle.ddt_laws.proofs.RegistrationsLemmas.JudgedLemmas.{taken_whole, one_site, replays}

-- ---- lists with one item of each kind

module _ {A : Type 0} (same : A → Bool) (new : A) where
  put_case : (old : A) (rest : List A) (b : Bool) → IsIn new (put_by same new rest) → IsIn new (cond b (new ∷ rest) (old ∷ put_by same new rest))
  put_case old rest true later = inl refl
  put_case old rest false later = inr later

  -- what is put is there
  pub put_is_in : (items : List A) → IsIn new (put_by same new items)
  put_is_in [] = inl refl
  put_is_in (old ∷ rest) = put_case old rest (same old) (put_is_in rest)

  kept_case : (old : A) (rest : List A) (a : A) (b : Bool) → same old ≡ b → IsIn a (old ∷ rest) → same a ≡ false → (IsIn a rest → IsIn a (put_by same new rest))
      → IsIn a (cond b (new ∷ rest) (old ∷ put_by same new rest))
  kept_case old rest a true is (inl here) other later = absurd (false≢true (sym other ∙ ap same here ∙ is))
  kept_case old rest a true is (inr among) other later = inr among
  kept_case old rest a false is (inl here) other later = inl here
  kept_case old rest a false is (inr among) other later = inr (later among)

  -- what isn't the same is still there
  pub others_are_in : (items : List A) (a : A) → IsIn a items → same a ≡ false → IsIn a (put_by same new items)
  others_are_in [] a among other = absurd among
  others_are_in (old ∷ rest) a among other = kept_case old rest a (same old) refl among other (λ k. others_are_in rest a k other)

-- ---- after a record

live_case : (now : ℕ) (m : Message) (r : RegisterRecord) (x : Sender) (live : List Registration) (g : Registration) (withdrawn : Bool) → IsIn g live → is_same_sender g.sender x ≡ false
    → IsIn g (cond withdrawn (filter (λ (h : Registration). not (is_same_sender h.sender x)) live)
    (put_by (λ (old : Registration). is_same_registrant old (registration_of now m r x)) (registration_of now m r x) live))
live_case now m r x live g true among other =
    filter_in (λ (h : Registration). not (is_same_sender h.sender x)) live g among (not_from_false (is_same_sender g.sender x) other)
live_case now m r x live g false among other =
    others_are_in (λ (old : Registration). is_same_registrant old (registration_of now m r x)) (registration_of now m r x) live g among other

pub others_stay_registered : OthersStayRegistered
others_stay_registered now m x r s g among other =
    contained (live_after now m r x s.live) g (live_case now m r x s.live g (r.ttl == 0) (in_contained s.live g among) other)

-- where the nonces of the key that a message names have to increase, its nonce is remembered
pub remembered : (m : Message) (keys : List Key) (k : Key) → key_of m.head keys ≡ Some k → k.replay ≡ Increasing → is_remembered m.head keys ≡ true
remembered m keys k is increasing =
    ap (λ (o : Option Key). option_map_or (λ (j : Key). is_increasing j.replay) o false) is ∙ ap is_increasing increasing

module _ (m : Message) (nonces : List LastNonce) where
  abbrev with_its_own : List LastNonce
  with_its_own = put_by (λ old. is_of_same_xtr old (nonce_of m)) (nonce_of m) nonces

  last_is_in : (remembers : Bool) → remembers ≡ true → IsIn (nonce_of m) (cond remembers with_its_own nonces)
  last_is_in true is = put_is_in (λ old. is_of_same_xtr old (nonce_of m)) (nonce_of m) nonces
  last_is_in false is = absurd (false≢true is)

  other_is_in : (remembers : Bool) (n : LastNonce) → IsIn n nonces → is_of_same_xtr n (nonce_of m) ≡ false → IsIn n (cond remembers with_its_own nonces)
  other_is_in true n among other = others_are_in (λ old. is_of_same_xtr old (nonce_of m)) (nonce_of m) nonces n among other
  other_is_in false n among other = among

pub none_forgotten : (now : ℕ) (m : Message) (x : Sender) (r : RegisterRecord) (s : Site) → NoNonceIsForgotten now m x r s
none_forgotten now m x r s =
    let remembers = is_remembered m.head s.keys in
    record {
      last = λ k is increasing. contained _ (nonce_of m) (last_is_in m s.nonces remembers (remembered m s.keys k is increasing));
      others = λ n among other. contained _ n (other_is_in m s.nonces remembers n (in_contained s.nonces n among) other);
    }

-- ---- the clock

pub over : WhatIsOverIsGone
over now s g = (
  λ among.
      let p = in_filter (is_in_force now) s.live g (in_contained _ g among) in
      (contained s.live g p.0, ltb-true now g.deadline p.1),
  λ both. contained _ g (filter_in (is_in_force now) s.live g (in_contained s.live g both.0) (lt-ltb now g.deadline both.1)),
)

-- ---- sites and their keys

module _ {B : Type 0} (view : Site → B) (now : ℕ) (m : Message) (x : Sender)
    (kept : (r : RegisterRecord) (s : Site) → view (site_after now m x r s) ≡ view s) where
  view_case : (r : RegisterRecord) (s : Site) (b : Bool) → view (cond b (site_after now m x r s) s) ≡ view s
  view_case r s true = kept r s
  view_case r s false = refl

  pub views_stay : (rs : List RegisterRecord) (sites : List Site) → map view (after_all now m x rs sites) ≡ map view sites
  views_stay [] sites = refl
  views_stay (r ∷ others) sites =
      views_stay others (sites_after now m x r sites)
      ∙ map_kept view (at_prefix (λ (s : Site). s.prefix) r.prefix (site_after now m x r)) (λ s. view_case r s (is_same_path s.prefix r.prefix)) sites

pub keys_stay : (now : ℕ) (m : Message) (x : Sender) (rs : List RegisterRecord) (sites : List Site) → KeysStay sites (after_all now m x rs sites)
keys_stay now m x rs sites = record {
  prefixes = views_stay (λ (s : Site). s.prefix) now m x (λ r s. refl) rs sites;
  keys = views_stay (λ (s : Site). s.keys) now m x (λ r s. refl) rs sites;
  configured = views_stay (λ (s : Site). s.configured) now m x (λ r s. refl) rs sites;
  fall_back = views_stay (λ (s : Site). s.falls_back) now m x (λ r s. refl) rs sites;
}

pub clock_keeps_keys : (now : ℕ) (sites : List Site) → KeysStay sites (map (site_at now) sites)
clock_keeps_keys now sites = record {
  prefixes = map_kept (λ (s : Site). s.prefix) (site_at now) (λ s. refl) sites;
  keys = map_kept (λ (s : Site). s.keys) (site_at now) (λ s. refl) sites;
  configured = map_kept (λ (s : Site). s.configured) (site_at now) (λ s. refl) sites;
  fall_back = map_kept (λ (s : Site). s.falls_back) (site_at now) (λ s. refl) sites;
}

-- ---- one site, after all records

module _ (now : ℕ) (m : Message) (x : Sender) where
  abbrev moved : RegisterRecord → Site → Site
  moved r = at_prefix (λ (s : Site). s.prefix) r.prefix (site_after now m x r)

  site_moved : (r : RegisterRecord) (sites : List Site) (n : ℕ) (s : Site) → slice_get sites n ≡ Some s → slice_get (sites_after now m x r sites) n ≡ Some (moved r s)
  site_moved r sites n s at = slice_get-map (moved r) sites n ∙ ap (option_map (moved r)) at

  pub stays_apart : (rs : List RegisterRecord) (sites : List Site) (n : ℕ) (s : Site) → slice_get sites n ≡ Some s
      → ((r : RegisterRecord) → IsIn r rs → is_same_path s.prefix r.prefix ≡ false) → slice_get (after_all now m x rs sites) n ≡ Some s
  stays_apart [] sites n s at apart = at
  stays_apart (r ∷ others) sites n s at apart =
      let same = cond-false (is_same_path s.prefix r.prefix) (site_after now m x r s) s (apart r (inl refl)) in
      stays_apart others (sites_after now m x r sites) n s (site_moved r sites n s at ∙ ap (λ (t : Site). Some t) same) (λ q k. apart q (inr k))

pub only_its_own : OnlyUnderItsOwnKey
only_its_own now m x sites key n s own e at none =
    stays_apart now m x m.records sites n s at
    (λ r among. false_from_ne_true _ (λ h.
    let may = taken_whole m x sites key e r (contained m.records r among) in
    let is : may.site ≡ s = one_site sites own may.site s (in_contained sites may.site may.is_kept) (in_get sites n s at) (may.of_prefix ∙ sym (same_path s.prefix r.prefix h)) in
    none may.key (subst (λ (t : Site). Contains t.keys may.key) is may.of_site) may.under))

-- ---- a message that comes again

-- the site at a place has the keys of this one, and has seen the nonce of the message
pub record HasSeen (m : Message) (sites : List Site) (n : ℕ) (s : Site) : Type 0 where
  pub site : Site
  pub at : slice_get sites n ≡ Some site
  pub prefix : site.prefix ≡ s.prefix
  pub keys : site.keys ≡ s.keys
  pub seen : IsIn (nonce_of m) site.nonces

module _ (now : ℕ) (m : Message) (x : Sender) where
  seen_case : (r : RegisterRecord) (sites : List Site) (n : ℕ) (s : Site) (b : Bool) → is_same_path s.prefix r.prefix ≡ b → slice_get sites n ≡ Some s
      → is_remembered m.head s.keys ≡ true → (b ≡ false → IsIn (nonce_of m) s.nonces) → HasSeen m (sites_after now m x r sites) n s
  seen_case r sites n s true is at remembers seen = record {
    site = site_after now m x r s;
    at = site_moved now m x r sites n s at ∙ ap (λ (t : Site). Some t) (cond-true (is_same_path s.prefix r.prefix) (site_after now m x r s) s is);
    prefix = refl;
    keys = refl;
    seen = last_is_in m s.nonces (is_remembered m.head s.keys) remembers;
  }
  seen_case r sites n s false is at remembers seen = record {
    site = s;
    at = site_moved now m x r sites n s at ∙ ap (λ (t : Site). Some t) (cond-false (is_same_path s.prefix r.prefix) (site_after now m x r s) s is);
    prefix = refl;
    keys = refl;
    seen = seen refl;
  }

  through : (sites : List Site) (n : ℕ) (s t : Site) → t.prefix ≡ s.prefix → t.keys ≡ s.keys → HasSeen m sites n t → HasSeen m sites n s
  through sites n s t p k h = record { site = h.site; at = h.at; prefix = h.prefix ∙ p; keys = h.keys ∙ k; seen = h.seen }

  still_seen : (rs : List RegisterRecord) (sites : List Site) (n : ℕ) (s : Site) → slice_get sites n ≡ Some s → is_remembered m.head s.keys ≡ true → IsIn (nonce_of m) s.nonces
      → HasSeen m (after_all now m x rs sites) n s
  still_seen [] sites n s at remembers seen = record { site = s; at = at; prefix = refl; keys = refl; seen = seen }
  still_seen (r ∷ others) sites n s at remembers seen =
      let h = seen_case r sites n s (is_same_path s.prefix r.prefix) refl at remembers (λ b. seen) in
      through _ n s h.site h.prefix h.keys
      (still_seen others (sites_after now m x r sites) n h.site h.at (ap (is_remembered m.head) h.keys ∙ remembers) h.seen)

  pub seen_after : (rs : List RegisterRecord) (sites : List Site) (n : ℕ) (s : Site) (q : RegisterRecord) → slice_get sites n ≡ Some s → is_remembered m.head s.keys ≡ true
      → IsIn q rs → s.prefix ≡ q.prefix
      → HasSeen m (after_all now m x rs sites) n s
  seen_after [] sites n s q at remembers among of_q = absurd among
  seen_after (r ∷ others) sites n s q at remembers (inl is) of_q =
      let same : is_same_path s.prefix r.prefix ≡ true = path_itself s.prefix r.prefix (of_q ∙ ap (λ (p : RegisterRecord). p.prefix) is) in
      let h = seen_case r sites n s true same at remembers (λ b. absurd (false≢true (sym b))) in
      through _ n s h.site h.prefix h.keys
      (still_seen others (sites_after now m x r sites) n h.site h.at (ap (is_remembered m.head) h.keys ∙ remembers) h.seen)
  seen_after (r ∷ others) sites n s q at remembers (inr later) of_q =
      let t = moved now m x r s in
      let prefix : t.prefix ≡ s.prefix = view_case (λ (a : Site). a.prefix) now m x (λ p a. refl) r s (is_same_path s.prefix r.prefix) in
      let keys : t.keys ≡ s.keys = view_case (λ (a : Site). a.keys) now m x (λ p a. refl) r s (is_same_path s.prefix r.prefix) in
      through _ n s t prefix keys
      (seen_after others (sites_after now m x r sites) n t q (site_moved now m x r sites n s at) (ap (is_remembered m.head) keys ∙ remembers) later
      (prefix ∙ of_q))

itself_case : (id : Option XtrId) → is_same_id id id ≡ true
itself_case (Some a) = and_from (a.xtr == a.xtr) (a.site == a.site) (eqb_self a.xtr) (eqb_self a.site)
itself_case None = refl

pub nonce_itself : (n : LastNonce) → is_of_same_xtr n n ≡ true
nonce_itself n =
    and_from (n.key_id == n.key_id && n.algorithm == n.algorithm) (is_same_id n.xtr n.xtr)
    (and_from (n.key_id == n.key_id) (n.algorithm == n.algorithm) (eqb_self n.key_id) (eqb_self n.algorithm)) (itself_case n.xtr)

-- no two prefixes of sites are one after a message either
pub own_stay : (now : ℕ) (m : Message) (x : Sender) (rs : List RegisterRecord) (sites : List Site) → have_own_prefixes (λ (s : Site). s.prefix) sites ≡ true
    → have_own_prefixes (λ (s : Site). s.prefix) (after_all now m x rs sites) ≡ true
own_stay now m x [] sites own = own
own_stay now m x (r ∷ others) sites own =
    let prefix : (s : Site) → (moved now m x r s).prefix ≡ s.prefix =
    λ s. view_case (λ (a : Site). a.prefix) now m x (λ p a. refl) r s (is_same_path s.prefix r.prefix) in
    own_stay now m x others (sites_after now m x r sites)
    (no_two_kept (λ (a b : Site). is_same_path a.prefix b.prefix) (moved now m x r)
    (λ a b. ap (λ (p : List ℕ). is_same_path p (moved now m x r b).prefix) (prefix a) ∙ ap (is_same_path a.prefix) (prefix b)) sites ∙ own)

pub not_twice : NoMessageIsTakenTwice
not_twice now m x y sites key r own e among increasing =
    let may = taken_whole m x sites key e r among in
    let place = get_in sites may.site (in_contained sites may.site may.is_kept) in
    let remembers = remembered m may.site.keys may.key may.named (increasing may.site may.key may.is_kept may.of_prefix may.of_site may.under) in
    let h = seen_after now m x m.records sites place.0 may.site r place.2 remembers (in_contained m.records r among) may.of_prefix in
    let later = after_all now m x m.records sites in
    replays m y later r h.site (nonce_of m) (own_stay now m x m.records sites own) among (contained later h.site (in_get later place.0 h.site h.at))
    (h.prefix ∙ may.of_prefix)
    (λ k kept under. increasing may.site k may.is_kept may.of_prefix (subst (λ (ks : List Key). Contains ks k) h.keys kept) under)
    (contained h.site.nonces (nonce_of m) h.seen) (nonce_itself (nonce_of m)) (omega arith)
