-- Add, adopt, learn, wedge, inherit and catch up as moves of a view: the facts of each new replica.
-- Assumes nothing.
use Prim.Native.Nat.{ℕ, zero, suc, ◌+◌, ◌-◌, ◌≤◌, ◌<◌}
use native.Mathlib.Nat.{le_refl, le_of_lt, add-zero, add-suc, suc_inj}
use native.Mathlib.Omega.{arith}
use mathlib.Core.Path.{◌≡◌, refl, sym, ap, ◌∙◌}
use mathlib.Core.Bool.{Bool, true, false}
use mathlib.Core.List.{List, [], ◌∷◌, ◌++◌}
use mathlib.Core.Logic.{◌⊎◌, inl, inr}
use lib.Dec.{leb, lit≤}
use borrow.Author.Tests.{leb-true, leb-false}
use lib.ListN.{length, take, length-append}
use lib.Seq.{take-append-le, length-take-le, take-nil}
use Rattle.model.specs.Tests.{contains}
use Rattle.model.specs.Add.{no_rival}
use Rattle.model.specs.Replicas.{Replica, stable_prefix, added, adopted, learned, wedged, inherited, caught_up}
use Rattle.model.specs.Prefixes.{Begins}
use Rattle.model.proofs.Prefixes.{begins_le, begins_refl, begins_trans, begins_append, begins_take-take, begins_same, begins_nil}
use Rattle.model.proofs.Histories.{Wider, once_append, offered_append, offered_wider}
use Rattle.model.proofs.Rivals.{single_append}
use Rattle.model.proofs.Views.{View, Root, Stem, Inv}
use Rattle.model.proofs.Moves.{Move}

-- an active replica is no immutable one
active_not : {m : ℕ} → m ≡ 2 → m ≡ 3 → ⊥
active_not a b = omega (arith, a, b)

pending_not : {m : ℕ} → m ≡ 1 → m ≡ 3 → ⊥
pending_not a b = omega (arith, a, b)

-- a stable prefix has as many entries as the stable length says, where that fits
pub prefix_length : (r : Replica) → r.stable ≤ length r.history → length (stable_prefix r) ≡ r.stable
unfolding stable_prefix
prefix_length r h = length-take-le r.stable r.history h

-- a list is one of two
data OneOf (q a b : List ℕ) : Type 0 where
  first : q ≡ a → OneOf q a b
  second : q ≡ b → OneOf q a b

root_append : {v : View} {b : ℕ} {l : List ℕ} (e : ℕ) → Root v b l → Root v b (l ++ (e ∷ []))
root_append e s = record { number = s.number; is_immutable = s.is_immutable; begins = begins_append (e ∷ []) s.begins }

-- ---- what adopt makes of a replica r: the history of the orderer's replica o, and a stable length that does not fall

adopted_history : (o r : Replica) → (adopted o r).history ≡ o.history
unfolding adopted
adopted_history o r = refl

adopted_mode : (o r : Replica) → (adopted o r).mode ≡ r.mode
unfolding adopted
adopted_mode o r = refl

pub adopted_fits : (o r : Replica) → (adopted o r).stable ≤ length o.history
unfolding adopted
adopted_fits o r = omega arith

adopted_keeps : (o r : Replica) → r.stable ≤ length o.history → r.stable ≤ (adopted o r).stable
unfolding adopted
adopted_keeps o r h = omega arith

adopted_one : (o r : Replica) → r.stable ≤ length o.history → o.stable ≤ length o.history
    → ((adopted o r).stable ≡ r.stable) ⊎ ((adopted o r).stable ≡ o.stable)
unfolding adopted
adopted_one o r h g = go (leb o.stable r.stable) refl
  where
    go : (t : Bool) → leb o.stable r.stable ≡ t → ((adopted o r).stable ≡ r.stable) ⊎ ((adopted o r).stable ≡ o.stable)
    go true e = inl (let q = leb-true o.stable r.stable e in omega arith)
    go false e = inr (let q = leb-false o.stable r.stable e in omega arith)

module _ {v : View} {offer : List ℕ} (i : Inv v offer) where
  -- the stable prefix of an unused or pending replica is empty
  pub blank_prefix : (j k : ℕ) → (v j k).mode < 2 → stable_prefix (v j k) ≡ []
  unfolding stable_prefix
  blank_prefix j k h = ap (take (v j k).stable) (i.blank j k h) ∙ take-nil (v j k).stable

  -- a live replica's own root and stem, at its configuration's number
  own_root : (j k : ℕ) → 2 ≤ (v j k).mode → (b : ℕ) → j ≡ suc b → Root v b (v j k).history
  own_root j k a b q = rw q (i.rooted b k (rw (sym q) a))

  own_stem : (j k : ℕ) → 2 ≤ (v j k).mode → (b p : ℕ) → j ≡ suc b → (v j p).mode ≡ 1 → Stem v b (stable_prefix (v j k))
  own_stem j k a b p q h = rw q (i.stemmed b p k (rw (sym q) h) (rw (sym q) a))

  -- add: the stable prefix is as it was
  added_prefix : (j k e : ℕ) → stable_prefix (added e (v j k)) ≡ stable_prefix (v j k)
  unfolding stable_prefix added
  added_prefix j k e = take-append-le (v j k).stable (v j k).history (e ∷ []) (i.fits j k)

  pub add_move : {offer' : List ℕ} (j k e : ℕ) → (v j k).mode ≡ 2 → contains e (v j k).history ≡ false → no_rival e (v j k).history ≡ true
      → Wider offer offer' → contains e offer' ≡ true → Move v offer' j k (added e (v j k))
  unfolding added
  add_move {offer'} j k e a n u w o =
      record {
        live = omega (arith, a);
        not_immutable = active_not a;
        fits = omega (arith, length-append (v j k).history (e ∷ []), i.fits j k);
        grows = begins_same (sym (added_prefix j k e));
        into = λ x l h. begins_append (e ∷ []) (i.reach x l j k h (omega (arith, a)));
        out = λ x l h g. rw (added_prefix j k e) (i.reach j k x l h g);
        rooted = λ b q. root_append e (own_root j k (omega (arith, a)) b q);
        stemmed = λ b p q h g. rw (added_prefix j k e) (own_stem j k (omega (arith, a)) b p q h);
        once = once_append e (i.once j k) n;
        single = single_append e (i.single j k) n u;
        offered = offered_append e (offered_wider w (i.offered j k)) o;
      }

  -- wedge: nothing but the mode
  pub wedge_move : (j k : ℕ) → (v j k).mode ≡ 2 → Move v offer j k (wedged (v j k))
  unfolding wedged stable_prefix
  wedge_move j k a =
      record {
        live = lit≤ tt;
        not_immutable = active_not a;
        fits = i.fits j k;
        grows = begins_refl;
        into = λ x l h. i.reach x l j k h (omega (arith, a));
        out = λ x l h g. i.reach j k x l h g;
        rooted = own_root j k (omega (arith, a));
        stemmed = λ b p q h g. own_stem j k (omega (arith, a)) b p q h;
        once = i.once j k;
        single = i.single j k;
        offered = i.offered j k;
      }

  -- inherit: history and stable prefix of an immutable replica of the configuration before
  module _ (b k q : ℕ) (a : (v (suc b) k).mode ≡ 1) (s : (v b q).mode ≡ 3) where
    -- what is stable in the new configuration was stable in the one before, and so begins the source's history
    inherit_into : (x l : ℕ) → x ≤ suc b → Begins (stable_prefix (v x l)) (v b q).history
    inherit_into x l h = go (leb x b) refl
      where
        stem : Stem v b (stable_prefix (v (suc b) l)) → Begins (stable_prefix (v (suc b) l)) (v b q).history
        stem t = begins_trans t.begins (i.reach b t.number b q (le_refl b) (omega (arith, s)))

        last : (t : Bool) → leb 2 (v (suc b) l).mode ≡ t → Begins (stable_prefix (v (suc b) l)) (v b q).history
        last true e = stem (i.stemmed b k l a (leb-true _ _ e))
        last false e = rw (blank_prefix (suc b) l (leb-false _ _ e)) begins_nil

        go : (t : Bool) → leb x b ≡ t → Begins (stable_prefix (v x l)) (v b q).history
        go true e = i.reach x l b q (leb-true _ _ e) (omega (arith, s))
        go false e =
            let f : x ≡ suc b = omega (arith, leb-false x b e) in
            rw f (last (leb 2 (v (suc b) l).mode) refl)

    pub inherit_move : (g : ℕ) → Move v offer (suc b) k (inherited g (v b q))
    unfolding inherited stable_prefix
    inherit_move g =
        record {
          live = lit≤ tt;
          not_immutable = pending_not a;
          fits = i.fits b q;
          grows = rw (blank_prefix (suc b) k (omega (arith, a))) begins_nil;
          into = inherit_into;
          out = λ x l h g. i.reach b q x l (omega arith) g;
          rooted = λ c e. at_pred e (record { number = q; is_immutable = s; begins = begins_refl });
          stemmed = λ c p e h g. stem_at_pred e (record { number = q; is_immutable = s; begins = begins_refl });
          once = i.once b q;
          single = i.single b q;
          offered = i.offered b q;
        }
      where
        at_pred : {c : ℕ} → suc b ≡ suc c → Root v b (v b q).history → Root v c (v b q).history
        at_pred e t = rw (sym (suc_inj e)) t

        stem_at_pred : {c : ℕ} → suc b ≡ suc c → Stem v b (stable_prefix (v b q)) → Stem v c (stable_prefix (v b q))
        stem_at_pred e t = rw (sym (suc_inj e)) t

  -- catch up: a copy of a replica of the same configuration, of which all this holds already
  pub catch_up_move : (j k o : ℕ) → (v j k).mode ≡ 1 → 2 ≤ (v j o).mode → Move v offer j k (caught_up (v j o))
  unfolding caught_up stable_prefix
  catch_up_move j k o a l =
      record {
        live = lit≤ tt;
        not_immutable = pending_not a;
        fits = i.fits j o;
        grows = rw (blank_prefix j k (omega (arith, a))) begins_nil;
        into = λ x m h. i.reach x m j o h l;
        out = λ x m h g. i.reach j o x m h g;
        rooted = own_root j o l;
        stemmed = λ b p q h g. own_stem j o l b p q h;
        once = i.once j o;
        single = i.single j o;
        offered = i.offered j o;
      }

  -- learn: every history of the configuration begins with the first n entries of this one, and nobody in it is pending
  module _ (j k n : ℕ) (a : (v j k).mode ≡ 2) (longer : (v j k).stable < n) (within : n ≤ length (v j k).history)
      (alike : (l : ℕ) → 2 ≤ (v j l).mode → Begins (take n (v j k).history) (v j l).history) (ready : (p : ℕ) → (v j p).mode ≡ 1 → ⊥) where
    -- so does every history of a later configuration, which comes from one of this configuration
    learn_later : (d l : ℕ) → 2 ≤ (v (j + d) l).mode → Begins (take n (v j k).history) (v (j + d) l).history
    learn_later zero l h = rw (add-zero j) (alike l (rw (sym (add-zero j)) h))
    learn_later (suc d) l h =
        let r : Root v (j + d) (v (j + suc d) l).history = rw (add-suc j d) (i.rooted (j + d) l (rw (sym (add-suc j d)) h)) in
        begins_trans (learn_later d r.number (omega (arith, r.is_immutable))) r.begins

    learn_out : (x l : ℕ) → j ≤ x → 2 ≤ (v x l).mode → Begins (take n (v j k).history) (v x l).history
    learn_out x l h g =
        let e : j + (x - j) ≡ x = omega arith in
        rw (sym e) (learn_later (x - j) l (rw e g))

    pub learn_move : Move v offer j k (learned n (v j k))
    unfolding learned stable_prefix
    learn_move =
        record {
          live = omega (arith, a);
          not_immutable = active_not a;
          fits = within;
          grows = begins_take-take (v j k).history (le_of_lt longer);
          into = λ x l h. i.reach x l j k h (omega (arith, a));
          out = learn_out;
          rooted = own_root j k (omega (arith, a));
          stemmed = λ b p q h g. absurd (ready p h);
          once = i.once j k;
          single = i.single j k;
          offered = i.offered j k;
        }

  -- adopt: the orderer's history, in which both stable prefixes stand, so that nothing is capped
  module _ (j k o : ℕ) (a : (v j k).mode ≡ 2) (l : 2 ≤ (v j o).mode) where
    own_in : Begins (stable_prefix (v j k)) (v j o).history
    own_in = i.reach j k j o (le_refl j) l

    -- the replica's own stable length is within the orderer's history, and so is the stable prefix
    own_within : (v j k).stable ≤ length (v j o).history
    own_within = omega (arith, begins_le own_in, prefix_length (v j k) (i.fits j k))

    own_prefix : take (v j k).stable (v j o).history ≡ stable_prefix (v j k)
    own_prefix = ap (λ (n : ℕ). take n (v j o).history) (sym (prefix_length (v j k) (i.fits j k))) ∙ own_in.starts

    -- the new stable prefix is one of the two
    adopt_prefix : OneOf (stable_prefix (adopted (v j o) (v j k))) (stable_prefix (v j k)) (stable_prefix (v j o))
    unfolding stable_prefix
    adopt_prefix = go (adopted_one (v j o) (v j k) own_within (i.fits j o))
      where
        go : ((adopted (v j o) (v j k)).stable ≡ (v j k).stable) ⊎ ((adopted (v j o) (v j k)).stable ≡ (v j o).stable)
            → OneOf (take (adopted (v j o) (v j k)).stable (adopted (v j o) (v j k)).history) (take (v j k).stable (v j k).history)
            (take (v j o).stable (v j o).history)
        go (inl e) = first (rw (e, adopted_history (v j o) (v j k)) own_prefix)
        go (inr e) = second (rw (e, adopted_history (v j o) (v j k)))

    adopt_out : (x m : ℕ) → j ≤ x → 2 ≤ (v x m).mode → Begins (stable_prefix (adopted (v j o) (v j k))) (v x m).history
    adopt_out x m h g = go adopt_prefix
      where
        go : {q : List ℕ} → OneOf q (stable_prefix (v j k)) (stable_prefix (v j o)) → Begins q (v x m).history
        go (first e) = rw e (i.reach j k x m h g)
        go (second e) = rw e (i.reach j o x m h g)

    adopt_stem : (b p : ℕ) → j ≡ suc b → (v j p).mode ≡ 1 → Stem v b (stable_prefix (adopted (v j o) (v j k)))
    adopt_stem b p q h = go adopt_prefix
      where
        go : {x : List ℕ} → OneOf x (stable_prefix (v j k)) (stable_prefix (v j o)) → Stem v b x
        go (first e) = rw e (own_stem j k (omega (arith, a)) b p q h)
        go (second e) = rw e (own_stem j o l b p q h)

    adopt_begins : Begins (stable_prefix (v j k)) (stable_prefix (adopted (v j o) (v j k)))
    unfolding stable_prefix
    adopt_begins =
        rw (adopted_history (v j o) (v j k), sym own_prefix)
        (begins_take-take (v j o).history (adopted_keeps (v j o) (v j k) own_within))

    pub adopt_move : Move v offer j k (adopted (v j o) (v j k))
    adopt_move =
        record {
          live = rw (adopted_mode (v j o) (v j k)) (omega (arith, a));
          not_immutable = active_not a;
          fits = rw (adopted_history (v j o) (v j k)) (adopted_fits (v j o) (v j k));
          grows = adopt_begins;
          into = λ x m h. rw (adopted_history (v j o) (v j k)) (i.reach x m j o h l);
          out = adopt_out;
          rooted = λ b q. rw (adopted_history (v j o) (v j k)) (own_root j o l b q);
          stemmed = λ b p q h g. adopt_stem b p q h;
          once = rw (adopted_history (v j o) (v j k)) (i.once j o);
          single = rw (adopted_history (v j o) (v j k)) (i.single j o);
          offered = rw (adopted_history (v j o) (v j k)) (i.offered j o);
        }
