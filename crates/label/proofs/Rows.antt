-- Admissions one after the other, each with what it owes to the time of the next. Where a second's silence is more than any owes,
-- lists joined with that silence between them are such a list again; and so are the admissions of runs.
use Prim.Native.Nat.{ℕ, ◌+◌, ◌≤◌}
use mathlib.Core.List.{List, [], ◌∷◌, ◌++◌, map}
use Rattle.model.specs.declared.Admission.{Admission}
use Rattle.model.specs.Claims.{All}
use Rattle.label.specs.Trailer.{by_model, journal}
use Rattle.label.specs.Restarts.{Started, later, sent_in, sent_in_all, silence, Silent, Restarts}

-- owes: what an admission owes to the time of the next; alone: what it keeps by itself
module _ (owes : Admission → ℕ → Type 0) (alone : Admission → Type 0) where
  -- each admission of the list, the newest first; next is when the one after the newest came
  abbrev pub Chain : ℕ → List Admission → Type 0
  Chain next [] = Unit {0}
  Chain next (a ∷ l) = owes a next × alone a × Chain a.at l

  -- the newest has no next yet
  abbrev pub SoFar : List Admission → Type 0
  SoFar [] = Unit {0}
  SoFar (a ∷ l) = alone a × Chain a.at l

  pub so_far : (next : ℕ) (l : List Admission) → Chain next l → SoFar l
  so_far next [] c = tt
  so_far next (a ∷ l) c = (c.1, c.2)

  -- moved along the clock it owes the same
  module _ (moves : (made : ℕ) (a : Admission) (next : ℕ) → owes a next → owes (later made a) (made + next))
      (moves-alone : (made : ℕ) (a : Admission) → alone a → alone (later made a)) where
    chain_moved : (made next : ℕ) (l : List Admission) → Chain next l → Chain (made + next) (map (later made) l)
    chain_moved made next [] c = tt
    chain_moved made next (a ∷ l) c =
        (moves made a next c.0, moves-alone made a c.1, chain_moved made a.at l c.2)

    pub moved_so_far : (made : ℕ) (l : List Admission) → SoFar l → SoFar (map (later made) l)
    moved_so_far made [] c = tt
    moved_so_far made (a ∷ l) c = (moves-alone made a c.0, chain_moved made a.at l c.1)

    -- a second later it owes nothing more
    module _ (paid : (a : Admission) (next : ℕ) → alone a → a.at + silence ≤ next → owes a next) where
      chain_joined : (next : ℕ) (b : Admission) (after before : List Admission) → Silent (b ∷ after) before → SoFar before
          → Chain next (b ∷ after) → Chain next (b ∷ after ++ before)
      chain_joined next b [] [] s h c = c
      chain_joined next b [] (a ∷ before) s h c = (c.0, c.1, (paid a b.at h.0 s.0.0, h.0, h.1))
      chain_joined next b (d ∷ after) before s h c = (c.0, c.1, chain_joined b.at d after before s.1 h c.2)

      pub joined_so_far : (after before : List Admission) → Silent after before → SoFar after → SoFar before
          → SoFar (after ++ before)
      joined_so_far [] before s h k = k
      joined_so_far (b ∷ []) [] s h k = h
      joined_so_far (b ∷ []) (a ∷ before) s h k = (h.0, (paid a b.at k.0 s.0.0, k.0, k.1))
      joined_so_far (b ∷ d ∷ after) before s h k = (h.0, chain_joined b.at d after before s.1 k h.1)

      pub row : (ss : List Started) → Restarts by_model ss → All (λ (s : Started). SoFar (journal s.run).admissions) ss
          → SoFar (sent_in_all by_model ss)
      unfolding sent_in_all
      row [] r h = tt
      row (s ∷ ss) r h =
          joined_so_far (sent_in by_model s) (sent_in_all by_model ss) r.0
          (moved_so_far s.made (journal s.run).admissions h.0) (row ss r.1 h.1)
