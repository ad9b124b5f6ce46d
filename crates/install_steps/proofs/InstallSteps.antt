-- An install, by the words that the code looks at: what it answers and leaves.
-- Assumes nothing.
use Rattle.std.specs.Prelude.{Ok, Err}
use Prim.Native.Nat.{ℕ, ◌+◌, ◌-◌, ◌*◌, ◌≤◌, ◌<◌}
use native.Mathlib.Omega.{arith}
use mathlib.Core.Path.{◌≡◌, refl, sym, ap, ap₂, ◌∙◌}
use mathlib.Core.Bool.{Bool, true, false, cond, not}
use mathlib.Core.List.{List}
use borrow.Author.Tests.{lt-ltb, le-ltb, eqb-true, eq-eqb, ne_eqb}
use lib.Dec.{eqb}
use lib.ListN.{length, get_or, take, drop}
use Rattle.types.specs.declared.kind.Kind.TheVariants.{Install}
use Rattle.types.specs.declared.rejection.Rejection.{Rejection}
use Rattle.types.specs.declared.rejection.Rejection.TheVariants.{NoIssue, WrongIndex, NotWedged, IssuedBefore}
use Rattle.types.specs.Rejections.{rejection_number}
use Rattle.types.specs.Kinds.{names_host}
use Rattle.types.specs.Rules.{most_fourth}
use Rattle.types.proofs.KindRules.{known}
use Rattle.model.specs.Checks.{first_of}
use Rattle.model.specs.Entries.{is_issue, is_issue_for, issue_shard, issue_index, issue_members, issue_orderer}
use Rattle.model.specs.Layout.{shards_of, sequencer}
use Rattle.model.specs.Install.{issuer, issued_at, none_before, is_stable_issue, is_newest_wedged, install_checks, install_next, install_effect}
use Rattle.model.specs.Steps.{are_numbers, kind_checks, kind_effect}
use Rattle.model.proofs.Heads.{installed_word}
use Rattle.model.proofs.Tests.{and_left, and_right}
use Rattle.model.proofs.Checks.{AllPass, passed}
use Rattle.model.proofs.WellFormedInstall.{issue_proper, next_index}
use Rattle.lookup.specs.Ready.{Ready, ReadyHost, Placed}
use Rattle.lookup.specs.FoundReplicas.{found_of}
use Rattle.entry_search.specs.Searches.{issued_in}
use Rattle.lookup.specs.KindContracts.{kind_answer, kind_after}
use Rattle.lookup.proofs.ReadyFields.{formed}
use Rattle.lookup.proofs.FoundReplicas.{At, at_found, early}
use Rattle.lookup.proofs.KindAnswers.{rejects, accepts, fourth_small, host_small}
use Rattle.install_steps.specs.Next.{ReadyNext}
use Rattle.install_steps.proofs.InstallReads.{stable_is, issued_is, none_is}

-- the numbers are in range
module _ {w : List ℕ} {z j : ℕ} (y : Ready w z j) (h q : ℕ) (e : are_numbers (Ok Install) (shards_of (length w)) h q ≡ true) where
  pub named : ReadyHost w z j h
  unfolding names_host
  named = record { ready = y; host = host_small (Ok Install) w z j h q e (known Install) refl }

  pub few : q ≤ 55
  unfolding most_fourth
  few = fourth_small (Ok Install) w z j h q e (known Install)

  pub nowhere : (x : Rejection) → Err x ≡ found_of w (sequencer w z) j h
      → (rejection_number x ≡ kind_answer (Ok Install) w z j h q) × (w ≡ kind_after (Ok Install) w z j h q)
  unfolding kind_checks install_checks
  nowhere x s = rejects (Ok Install) w z j h q e x (early w (sequencer w z) j h s x _ refl)

  -- r is the place of the replica that was found
  module _ {r : ℕ} (s : Ok r ≡ found_of w (sequencer w z) j h) where
    at : At w (sequencer w z) j h r
    at = at_found w (sequencer w z) j h s r refl

    pub not_stable : get_or w (r + 2) 0 ≤ q → (20 ≡ kind_answer (Ok Install) w z j h q) × (w ≡ kind_after (Ok Install) w z j h q)
    unfolding kind_checks install_checks is_stable_issue first_of
    not_stable l =
        rejects (Ok Install) w z j h q e NoIssue (simp (at.there, at.member, stable_is named at, le-ltb q (get_or w (r + 2) 0) l))

    -- the entry at the place, which is stable
    module _ (l : q < get_or w (r + 2) 0) where
      entry : ℕ
      entry = get_or w (r + 8 + q) 0

      entry_is : issued_at w z j h q ≡ entry
      unfolding entry
      entry_is = issued_is named at q l

      -- the third check, as the code makes it
      third : is_stable_issue w z j h q ≡ is_issue_for z entry
      unfolding is_stable_issue
      third = rw (stable_is named at, lt-ltb q (get_or w (r + 2) 0) l, entry_is)

      module _ {t : Bool} (k : t ≡ is_issue_for z (get_or w (r + 8 + q) 0)) where
        pub no_issue : t ≡ false → (20 ≡ kind_answer (Ok Install) w z j h q) × (w ≡ kind_after (Ok Install) w z j h q)
        unfolding kind_checks install_checks first_of entry
        no_issue m =
            rejects (Ok Install) w z j h q e NoIssue (simp (at.there, at.member, third, sym k ∙ m))

        issue_for : t ≡ true → (is_issue (get_or w (r + 8 + q) 0) ≡ true) × (eqb (issue_shard (get_or w (r + 8 + q) 0)) z ≡ true)
        unfolding is_issue_for
        issue_for g =
            let issues : is_issue_for z (get_or w (r + 8 + q) 0) ≡ true = sym k ∙ g in
            search (and_left, and_right)

        pub is_issue_lem : t ≡ true → is_issue (get_or w (r + 8 + q) 0) ≡ true
        is_issue_lem g = (issue_for g).0

        module _ (g : t ≡ true) {x : ℕ} (index : x ≡ issue_index (get_or w (r + 8 + q) 0)) where
          issued : is_stable_issue w z j h q ≡ true
          unfolding entry
          issued = third ∙ sym k ∙ g

          -- the fourth check, as the code makes it
          index_is : issue_index (issued_at w z j h q) ≡ x
          unfolding entry
          index_is = ap issue_index entry_is ∙ sym index

          pub not_next : (x ≡ get_or w (z * 2112 + 1) 0 + 1 → ⊥) → (21 ≡ kind_answer (Ok Install) w z j h q) × (w ≡ kind_after (Ok Install) w z j h q)
          unfolding kind_checks install_checks first_of
          not_next m =
              rejects (Ok Install) w z j h q e WrongIndex (simp (at.there, at.member, issued, index_is, installed_word, ne_eqb _ _ m))

          -- d is whether the newest configuration is wedged
          pub not_wedged : x ≡ get_or w (z * 2112 + 1) 0 + 1 → {d : Bool} → d ≡ is_newest_wedged w z → d ≡ false
              → (24 ≡ kind_answer (Ok Install) w z j h q) × (w ≡ kind_after (Ok Install) w z j h q)
          unfolding kind_checks install_checks first_of
          not_wedged f {d} tested m =
              rejects (Ok Install) w z j h q e NotWedged
              (simp (at.there, at.member, issued, index_is, installed_word, eq-eqb _ _ f, sym tested ∙ m))

          module _ (f : x ≡ get_or w (z * 2112 + 1) 0 + 1) {d : Bool} (tested : d ≡ is_newest_wedged w z) (wedged : d ≡ true)
              (fits : Placed w r) {u : Bool}
              (v : u ≡ issued_in (issue_shard (get_or w (r + 8 + q) 0)) (issue_index (get_or w (r + 8 + q) 0))
              (take (r + 8 + q - (r + 8)) (drop (r + 8) w))) where
            -- the last check, as the code makes it
            sixth : none_before z x q (issuer w z j h).history ≡ not u
            sixth =
                let shard : issue_shard (get_or w (r + 8 + q) 0) ≡ z = eqb-true _ _ (issue_for g).1 in
                rw (v, ← index, shard) (none_is named at x q l fits.fits few)

            last : cond (not u) 0 22 ≡ first_of (install_checks w z j h q)
            unfolding install_checks first_of
            last =
                simp (
                  at.there,
                  at.member,
                  issued,
                  index_is,
                  installed_word,
                  eq-eqb _ _ f,
                  sym tested ∙ wedged,
                  sixth,
                )

            pub earlier : u ≡ true → (22 ≡ kind_answer (Ok Install) w z j h q) × (w ≡ kind_after (Ok Install) w z j h q)
            unfolding kind_checks
            earlier m = rejects (Ok Install) w z j h q e IssuedBefore (rw m at last)

            module _ (i : u ≡ false) where
              first : 0 ≡ first_of (install_checks w z j h q)
              first = rw i at last

              passes : AllPass (install_checks w z j h q)
              unfolding install_checks
              passes = passed (install_checks w z j h q) refl (sym first)

              module _ {m o : ℕ} (em : m ≡ issue_members (get_or w (r + 8 + q) 0)) (eo : o ≡ issue_orderer (get_or w (r + 8 + q) 0)) where
                members_are : issue_members (issued_at w z j h q) ≡ m
                unfolding entry
                members_are = ap issue_members entry_is ∙ sym em

                orderer_is : issue_orderer (issued_at w z j h q) ≡ o
                unfolding entry
                orderer_is = ap issue_orderer entry_is ∙ sym eo

                pub next_ready : ReadyNext w z m o
                next_ready =
                    let proper = issue_proper (formed y.state) y.shard y.configuration h q passes in
                    let next = next_index (formed y.state) y.shard y.configuration h q passes in
                    rw (← members_are, ← orderer_is)
                    (record {
                      state = y.state;
                      shard = y.shard;
                      next = omega (arith, next, proper.index_most, installed_word w z);
                      configured = proper.configuration;
                    })

                pub done : {v : List ℕ} → v ≡ install_next w z m o → (0 ≡ kind_answer (Ok Install) w z j h q) × (v ≡ kind_after (Ok Install) w z j h q)
                unfolding kind_checks kind_effect install_effect
                done s = accepts (Ok Install) w z j h q e first (s ∙ sym (ap₂ (install_next w z) members_are orderer_is))
