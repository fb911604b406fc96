-- The key under which a message is taken is one under which it is authentic.
use Rattle.std.proofs.Common.{◌≡◌, Bool, true, false, List, [], ◌∷◌, Option, Some, None, refl, sym, ap, ◌∙◌}
use Rattle.std.specs.Prelude.{not, is_ok, cond, Result, Ok, Err}
use Rattle.std.specs.Option.{unwrap_or}
use Rattle.std.proofs.lemmas.Bool.{false≢true}
use Rattle.std.proofs.lemmas.Option.{none-some, same_Some}
use Rattle.ddt_path.specs.Steps.{◌>>=◌}
use Rattle.ddt_map_register.specs.MapRegister.{Message}
use Rattle.ddt_map_register.specs.RegisterRecord.{RegisterRecord}
use Rattle.ddt_registrar.specs.declared.sender.Sender.{Sender}
use Rattle.ddt_registrar.specs.declared.refusal.Refusal.{Refusal}
use Rattle.ddt_registrar.specs.declared.refusal.Refusal.TheVariants.{NoSite, NoKey, WrongCode, Replayed, TooMany, NoRecord}
use Rattle.ddt_registrar.specs.Checks.{key_of, bears_code, is_fresh, nonce_of, has_room, checked_under, checked_at, checked_from, checked, site_of}
use Rattle.ddt_registrar.specs.State.{Key, Site}

not_ok : {A E : Type 0} (e : E) (a : A) → ◌≡◌ {A = Result A E} (Err e) (Ok a) → ⊥
not_ok e a same = false≢true (ap (λ r. is_ok r) same)

abbrev value_or : {A E : Type 0} → A → Result A E → A
value_or d (Ok a) = a
value_or d (Err e) = d

same_Ok : {A E : Type 0} (a b : A) → ◌≡◌ {A = Result A E} (Ok a) (Ok b) → a ≡ b
same_Ok a b same = ap (value_or a) same

module _ (m : Message) (x : Sender) where
  abbrev Bears : Key → Type 0
  Bears k = bears_code k.secret m ≡ true

  bears_under : (r : RegisterRecord) (s : Site) (o : Option Key) (k : Key) → checked_under m r x s o ≡ Ok k → Bears k
  bears_under r s None k is = absurd (not_ok NoKey k is)
  bears_under r s (Some a) k is = go (bears_code a.secret m) refl (not (is_fresh a.replay (nonce_of m) s.nonces)) (not (has_room a.replay m r x s)) is
    where
      go : (b : Bool) → bears_code a.secret m ≡ b → (stale full : Bool)
          → cond (not b) (Err WrongCode) (cond stale (Err Replayed) (cond full (Err TooMany) (Ok a))) ≡ Ok k → bears_code k.secret m ≡ true
      go false t stale full same = absurd (not_ok WrongCode k same)
      go true t true full same = absurd (not_ok Replayed k same)
      go true t false true same = absurd (not_ok TooMany k same)
      go true t false false same = ap (λ (l : Key). bears_code l.secret m) (sym (same_Ok a k same)) ∙ t

  bears_at : (r : RegisterRecord) (o : Option Site) (k : Key) → checked_at m r x o ≡ Ok k → Bears k
  bears_at r None k is = absurd (not_ok NoSite k is)
  bears_at r (Some s) k is = bears_under r s (key_of m.head s.keys) k is

  module _ (sites : List Site) where
    bears_from : (rs : List RegisterRecord) (first : Option Key) → ((k : Key) → first ≡ Some k → Bears k) → (k : Key)
        → checked_from m x sites rs first ≡ Ok k → Bears k
    bears_from [] None known k is = absurd (not_ok NoRecord k is)
    bears_from [] (Some a) known k is = ap (λ (l : Key). bears_code l.secret m) (sym (same_Ok a k is)) ∙ known a refl
    bears_from (r ∷ rs) first known k is = go (checked_at m r x (site_of r sites)) refl is (bears_from rs)
      where
        later : (a : Key) → Bears a → (o : Option Key) → ((l : Key) → o ≡ Some l → Bears l) → (l : Key) → Some (unwrap_or o a) ≡ Some l → Bears l
        later a bears None of l same = ap (λ (n : Key). bears_code n.secret m) (sym (same_Some a l same)) ∙ bears
        later a bears (Some b) of l same = of l same

        go : (v : Result Key Refusal) → checked_at m r x (site_of r sites) ≡ v
            → (v >>= λ a. checked_from m x sites rs (Some (unwrap_or first a))) ≡ Ok k
            → ((o : Option Key) → ((l : Key) → o ≡ Some l → Bears l) → (l : Key) → checked_from m x sites rs o ≡ Ok l → Bears l) → Bears k
        go (Err e) t same among = absurd (not_ok e k same)
        go (Ok a) t same among =
            among (Some (unwrap_or first a)) (later a (bears_at r (site_of r sites) a t) first known) k same

    -- a message is authentic under the key under which it is taken
    pub judged_bears : (k : Key) → checked m x sites ≡ Ok k → Bears k
    judged_bears k is = bears_from m.records None (λ l same. absurd (none-some l same)) k is
