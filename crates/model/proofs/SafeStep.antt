-- An accepted step keeps a state safe, and goes forward.
-- Assumes nothing.
use Rattle.std.specs.Prelude.{Ok, Err}
use Prim.Native.Nat.{ℕ, suc, ◌<◌}
use mathlib.Core.Path.{◌≡◌, refl, sym}
use mathlib.Core.Bool.{Bool, true, false, cond, ◌&&◌}
use mathlib.Core.List.{List, ◌∷◌}
use lib.Dec.{leb, eqb}
use borrow.Author.Tests.{eq-eqb}
use Rattle.types.specs.declared.kind.Kind.TheVariants.{Add, Adopt, Learn, Wedge, Install, Inherit, CatchUp}
use Rattle.types.specs.declared.kind.NoKind.TheVariants.{Kept, Unknown}
use Rattle.types.specs.declared.step.Step.{Step}
use Rattle.model.specs.Tests.{contains}
use Rattle.types.specs.Kinds.{NamedKind, kind_of}
use Rattle.model.specs.Layout.{sequencer, installed}
use Rattle.types.specs.StepNames.{shard_of}
use Rattle.model.specs.Steps.{kind_checks, kind_effect, rejection, effect}
use Rattle.model.specs.Reference.{is_add_in}
use Rattle.model.specs.OneList.{shards}
use Rattle.model.proofs.Checks.{Accepted, accepted}
use Rattle.model.proofs.Histories.{Wider, wider_refl, wider_cons}
use Rattle.model.proofs.WellFormed.{is_well_formed}
use Rattle.model.proofs.WellFormedSteps.{effect_formed}
use Rattle.model.proofs.Forward.{Forward, forward_refl, forward_shards}
use Rattle.model.proofs.Safe.{Safe, offers_after, Installs}
use Rattle.model.proofs.StateViews.{view}
use Rattle.model.proofs.SafeChange.{From, stood, Count, as_many, SafeChange}
use Rattle.model.proofs.SafeKinds.{kept_add, kept_adopt, kept_learn, kept_wedge, kept_inherit, kept_catch_up}
use Rattle.model.proofs.SafeInstall.{kept_install}

-- the kind that offers
is_add : NamedKind → Bool
is_add (Ok Add) = true
is_add (Ok Adopt) = false
is_add (Ok Learn) = false
is_add (Ok Wedge) = false
is_add (Ok Install) = false
is_add (Ok Inherit) = false
is_add (Ok CatchUp) = false
is_add (Err Kept) = false
is_add (Err Unknown) = false

neither : (b : Bool) (k l : NamedKind) → is_add k ≡ false → is_add l ≡ false → is_add (cond b k l) ≡ false
neither true k l p q = p
neither false k l p q = q

-- it has the number 1
kind_is_add : (n : ℕ) → eqb n 1 ≡ is_add (kind_of n)
unfolding kind_of is_add
kind_is_add n = go (eqb n 1) refl
  where
    rest : is_add (cond (eqb n 2) (Ok Adopt) (cond (eqb n 3) (Ok Learn) (cond (eqb n 4) (Ok Wedge) (cond (eqb n 5) (Ok Install) (cond (eqb n 6) (Ok Inherit)
        (cond (eqb n 7) (Ok CatchUp) (cond (leb 8 n && leb n 31) (Err Kept) (Err Unknown)))))))) ≡ false
    rest =
        neither (eqb n 2) _ _ refl
        (neither (eqb n 3) _ _ refl
        (neither (eqb n 4) _ _ refl
        (neither (eqb n 5) _ _ refl
        (neither (eqb n 6) _ _ refl (neither (eqb n 7) _ _ refl (neither (leb 8 n && leb n 31) _ _ refl refl))))))

    go : (t : Bool) → eqb n 1 ≡ t → eqb n 1 ≡ is_add (kind_of n)
    go true e = rw e
    go false e = rw e (sym rest)

-- what is offered after an accepted step
module _ (s : Step) (offers : ℕ → List ℕ) where
  offers_wider : (z : ℕ) → Wider (offers z) (offers_after s offers z)
  unfolding offers_after
  offers_wider z = go (is_add_in z s 0)
    where
      go : (t : Bool) → Wider (offers z) (cond t (s.c ∷ offers z) (offers z))
      go true = wider_cons s.c (offers z)
      go false = wider_refl

  offers_same : is_add (kind_of s.kind) ≡ false → (z : ℕ) → offers_after s offers z ≡ offers z
  unfolding offers_after is_add_in
  offers_same e z = rw (kind_is_add s.kind, e)

  add_offers : is_add (kind_of s.kind) ≡ true → contains s.c (offers_after s offers (shard_of s)) ≡ true
  unfolding offers_after is_add_in contains
  add_offers e = rw (kind_is_add s.kind, e, eq-eqb (shard_of s) (shard_of s) refl, eq-eqb s.c s.c refl)

kept_as : {gets : ℕ → Type 0} {w w' : List ℕ} {offers o o' : ℕ → List ℕ} → ((z : ℕ) → o' z ≡ o z)
    → SafeChange gets w offers w' o → SafeChange gets w offers w' o'
kept_as e k =
    record {
      forward = k.forward;
      inv = λ z h. rw (e z) (k.inv z h);
      wedges = k.wedges;
      origins = k.origins;
      counts = k.counts;
      sequencers = k.sequencers;
    }

-- a state that nothing changes
kept_same : {gets : ℕ → Type 0} {w : List ℕ} {offers : ℕ → List ℕ} → Safe w offers → SafeChange gets w offers w offers
kept_same x =
    record {
      forward = forward_refl;
      inv = x.inv;
      wedges = x.wedges;
      origins = λ z j k g h e. stood e;
      counts = λ z h. as_many refl;
      sequencers = λ z h. refl;
    }

-- by kinds
kept_step : {w : List ℕ} {offers : ℕ → List ℕ} → Safe w offers → (s : Step) → Accepted w s → (k : NamedKind) → kind_of s.kind ≡ k
    → SafeChange (Installs s) w offers (effect w s) (offers_after s offers)
unfolding effect kind_effect kind_checks shards is_add
kept_step {w} {offers} x s a (Ok Add) e =
    rw e
    (kept_add x a.range.shard a.range.configuration s.c (rw e at a.checks) (offers_wider s offers) (add_offers s offers (rw e)))
kept_step {w} {offers} x s a (Ok Adopt) e =
    rw e (kept_as (offers_same s offers (rw e)) (kept_adopt x a.range.shard a.range.configuration s.c (rw e at a.checks)))
kept_step {w} {offers} x s a (Ok Learn) e =
    rw e (kept_as (offers_same s offers (rw e)) (kept_learn x a.range.shard a.range.configuration s.c s.d (rw e at a.checks)))
kept_step {w} {offers} x s a (Ok Wedge) e =
    rw e (kept_as (offers_same s offers (rw e)) (kept_wedge x a.range.shard a.range.configuration s.c (rw e at a.checks)))
kept_step {w} {offers} x s a (Ok Install) e =
    rw e
    (kept_as (offers_same s offers (rw e))
    (kept_install x a.range.shard a.range.configuration s.c s.d (rw e at a.checks) (record { kind = e; shard = refl })))
kept_step {w} {offers} x s a (Ok Inherit) e =
    rw e (kept_as (offers_same s offers (rw e)) (kept_inherit x a.range.shard a.range.configuration s.c s.d (rw e at a.checks)))
kept_step {w} {offers} x s a (Ok CatchUp) e =
    rw e (kept_as (offers_same s offers (rw e)) (kept_catch_up x a.range.shard a.range.configuration s.c s.d (rw e at a.checks)))
kept_step {w} {offers} x s a (Err Kept) e =
    rw e (kept_as (offers_same s offers (rw e)) (kept_same x))
kept_step {w} {offers} x s a (Err Unknown) e =
    rw e (kept_as (offers_same s offers (rw e)) (kept_same x))

pub record SafeStep (w : List ℕ) (s : Step) (w' : List ℕ) (offers' : ℕ → List ℕ) : Type 0 where
  pub safe : Safe w' offers'
  pub forward : Forward w w'
  pub origins : (z j k g : ℕ) → z < shards w → (view w' z j k).origin ≡ suc g → From w z j k (view w' z j k) g
  pub counts : (z : ℕ) → z < shards w → Count (Installs s z) (installed w z) (installed w' z)
  pub sequencers : (z : ℕ) → z < shards w → sequencer w' z ≡ sequencer w z

pub safe_step : {w : List ℕ} {offers : ℕ → List ℕ} → Safe w offers → (s : Step) → rejection w s ≡ 0
    → SafeStep w s (effect w s) (offers_after s offers)
unfolding shards
safe_step {w} {offers} x s e =
    let a = accepted w s e in
    let k = kept_step x s a (kind_of s.kind) refl in
    let f = forward_shards k.forward in
    record {
      safe =
          record {
            several = rw f x.several;
            formed = is_well_formed (effect_formed w s a);
            inv = λ z h. k.inv z (rw f at h);
            wedges = λ z j h l. k.wedges z j (rw f at h) l;
          };
      forward = k.forward;
      origins = k.origins;
      counts = k.counts;
      sequencers = k.sequencers;
    }
