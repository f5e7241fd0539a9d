-- What a caller lends for one call, in any number: arrays that stay in their block from call to call, and slices in
-- fresh blocks. For any function; it says nothing of this program.
--     Loan             one reference: what is in memory before and after the call, what the function is given, and
--                      what the lender keeps aside
--     ref-loan         one value lent as a `&mut T`, and there again after the call.        T is an array for an image
--     slice-loan       values lent as a `&mut [T]`, and there again.        shared-slice-loan     as a `&[T]`, and there
--                      again as they were
--     called           a function that is given a list of loans comes to its end, its promise is a plain fact of the
--                      result and of the last values, and memory has these
-- Assumes a `Model`, and `Logic`.
use mathlib.Core.Logic.{∥∥₁_prop, ∥∥₁_elim, ∥∥₁_map}
use mathlib.Core.List.{List, [], ◌∷◌}
use Prim.Native.Nat.{ℕ}
use lib.ListN.{length}
use seplogic.Ra.Ura.{Ura}
use base.Fraction.{full_share}
use mir.Syntax.{named}
use mir.Val.{Val, vptr}
use base.Logic.{SProp, ent, sep, emp, ex, id⊢, via, mono_l, mono_r, mono∗, fst∗, snd∗, emp∗, comm∗, assoc∗, ex_i}
use base.Fml.{Fml, GName, feq, fsep, fbor, flft, flent, fres}
use prog.Memory.{Memory}
use prog.Model.{Model}
use prog.Routine.{Routine, ends}
use contract.Monad.{fact}
use contract.Running.{Running}
use contract.Adequate.{Satisfies, sat_weaken, sat_⇛, sat_ex∗, sat_fact}
use types.Logic.{Logic, sem}
use denote.Laws.{Is, shows}
use denote.Lend.{Held, lends_ref, ref_back}
use denote.Memory.{mem}
use denote.RattleType.{RattleType}
use denote.Ref.{Bor, MutBor, MutRef}
use denote.Signature.{Signature, type_at}
use denote.Shares.{Shares}
use denote.Slice.{slice_val, ShrSlice, MutSlice, finally, Room}
use denote.Triple.Bound.{passed}
use denote.Triple.Entry.{Res, alive}
use denote.Triple.Spec.{Spec, triple_of, Meets}
use types.Kit.{‵, raw, ◌⊛◌, some, later, ◌$◌, ◌∵◌, !, qed, by, move, keep, use0, use1, use3, split, join, pick, fsplit, frame, await, updating, now as at_once, suffices, done}
use types.Hole.{Holey}
use types.SemTy.{cells, Arr, Body}
use types.Tokens.{lft_new, lft_end}
use Rattle.theorem_calls.proofs.Machine.{Strict, returns}
use Rattle.theorem_calls.proofs.Blocks.{lend_cells, cells_back, Parts, share_cells, shared_back}

-- the reference to x at place 0 of the block b
abbrev pub ref_to : {D : Type 0} → ℕ → GName → D → MutBor D
ref_to b γ x = record { ref_ptr = (b, 0); ghost_name = γ; now = x }

abbrev pub shared_to : {D : Type 0} → ℕ → D → Bor D
shared_to b x = record { ref_ptr = (b, 0); now = x }

pub record Loan {M : Type 1} {𝓤 : Ura M} (𝓛 : Logic 𝓤) : Type 2 where
  -- the type of the last value that a contract may speak of
  pub Value : Type 0
  pub before : SProp 𝓤
  pub after : Value → SProp 𝓤
  -- for the lifetime α, under the name γ
  pub given : ℕ → GName → SProp 𝓤
  pub aside : ℕ → GName → SProp 𝓤
  pub final : ℕ → GName → Value → SProp 𝓤
  pub lend : ent 𝓤 before (𝓛.H.⇛ (ex 𝓤 (λ (α : ℕ). ex 𝓤 (λ (γ : GName). sep 𝓤 (sep 𝓤 (𝓛.A.lft (α ∷ []) full_share) (given α γ)) (aside α γ)))))
  pub back : (α : ℕ) (γ : GName) (w : Value) → ent 𝓤 (sep 𝓤 (𝓛.A.lft (α ∷ []) full_share) (sep 𝓤 (aside α γ) (final α γ w))) (𝓛.H.⇛ (after w))

module _ {M : Type 1} {𝓤 : Ura M} (𝓛 : Logic 𝓤) (R : RattleType) (b : ℕ) where
  -- ---- one value, as a `&mut T`
  open 𝓛 use {H, A}

  module _ (x : R.Denot) where
    abbrev RefGiven : ℕ → GName → SProp 𝓤
    RefGiven α γ = sem 𝓛 ((MutRef (named 0) (α ∷ []) R).own_val (ref_to b γ x) (vptr b 0 ∷ []))

    abbrev RefAside : ℕ → GName → SProp 𝓤
    RefAside α γ = A.lent (α ∷ []) (Body (mem R) b 0 γ)

    abbrev RefLent : ℕ → GName → SProp 𝓤
    RefLent α γ = sep 𝓤 (sep 𝓤 (A.lft (α ∷ []) full_share) (RefGiven α γ)) (RefAside α γ)

    pub ref_lend : ent 𝓤 (sem 𝓛 ((mem R).own_at x b 0)) (H.⇛ (ex 𝓤 (λ (α : ℕ). ex 𝓤 (RefLent α))))
    ref_lend =
        qed 𝓛 (‵ ((mem R).own_at x b 0) ∷ []) ∵ updating ! $
        lft_new ! tt (λ α. move ! (1 ∷ []) $
        use1 𝓛 (later (some (λ (γ : GName). raw (RefGiven α γ) ⊛ raw (RefAside α γ)))) (lends_ref 𝓛 R (named 0) (α ∷ []) x b 0) $
        await ! tt $ pick ! (λ γ. split ! $ at_once ! $
        suffices ! (RefLent α γ) (via 𝓤 (ex 𝓤 (RefLent α)) (ex_i 𝓤 (RefLent α) γ) (ex_i 𝓤 (λ (α' : ℕ). ex 𝓤 (RefLent α')) α)) $
        move ! (2 ∷ 0 ∷ 1 ∷ []) $ join ! $ frame ! $ keep ! (0 ∷ []) $ done !))

    -- the last value, and the borrow, closed
    abbrev RefFinal : ℕ → GName → R.Denot → Fml
    RefFinal α γ y = fsep (fres γ (R.coded.code y)) (fbor (α ∷ []) (Body (mem R) b 0 γ))

    pub ref_returns : (α : ℕ) (γ : GName) (y : R.Denot) → ent 𝓤 (sep 𝓤 (A.lft (α ∷ []) full_share) (sep 𝓤 (RefAside α γ) (sem 𝓛 (RefFinal α γ y)))) (H.⇛ (sem 𝓛 ((mem R).own_at y b 0)))
    ref_returns α γ y =
        qed 𝓛 (‵ (flft (α ∷ []) full_share) ∷ ‵ (flent (α ∷ []) (Body (mem R) b 0 γ)) ∷ ‵ (RefFinal α γ y) ∷ []) ∵
        move ! (2 ∷ []) $ fsplit ! $ keep ! (2 ∷ 3 ∷ 0 ∷ []) $ updating ! $ lft_end ! tt $
        use3 𝓛 (later (‵ ((mem R).own_at y b 0))) (ref_back 𝓛 R (α ∷ []) γ y b 0) $ await ! tt $ at_once ! $ done !

    abbrev pub ref_loan : Loan 𝓛
    ref_loan = record {
      Value = R.Denot;
      before = sem 𝓛 ((mem R).own_at x b 0);
      after = λ y. sem 𝓛 ((mem R).own_at y b 0);
      given = RefGiven;
      aside = RefAside;
      final = λ α γ y. sem 𝓛 (RefFinal α γ y);
      lend = ref_lend;
      back = ref_returns;
    }

  -- ---- values one after another, as a `&mut [T]` and as a `&[T]`
  module _ (xs : List R.Denot) (room : Room R (length xs)) where
    abbrev Cells : List R.Denot → SProp 𝓤
    Cells ys = sem 𝓛 (cells (mem R) ys b 0)

    abbrev SliceFinal : ℕ → GName → List R.Denot → Fml
    SliceFinal α γ ys = fsep (fsep (finally R γ ys) (feq ℕ (length ys) (length xs))) (fbor (α ∷ []) (Body (Arr (Holey (mem R)) (length xs)) b 0 γ))

    pub slice-returns : (α : ℕ) (γ : GName) (ys : List R.Denot) → ent 𝓤 (sep 𝓤 (A.lft (α ∷ []) full_share) (sep 𝓤 (A.lent (α ∷ []) (Held R (length xs) b 0 γ)) (sem 𝓛 (SliceFinal α γ ys)))) (H.⇛ (Cells ys))
    slice-returns α γ ys =
        qed 𝓛 (‵ (flft (α ∷ []) full_share) ∷ ‵ (flent (α ∷ []) (Held R (length xs) b 0 γ)) ∷ ‵ (SliceFinal α γ ys) ∷ []) ∵
        move ! (2 ∷ []) $ fsplit ! $ fsplit ! $ keep ! (3 ∷ 4 ∷ 0 ∷ []) $ by ! (cells_back 𝓛 R b α γ (length xs) ys)

    abbrev pub slice_loan : Loan 𝓛
    slice_loan = record {
      Value = List R.Denot;
      before = Cells xs;
      after = Cells;
      given = λ α γ. sem 𝓛 ((MutSlice (named 0) (α ∷ []) R).own_val (ref_to b γ xs) (slice_val (b, 0) (length xs) ∷ []));
      aside = λ α γ. A.lent (α ∷ []) (Held R (length xs) b 0 γ);
      final = λ α γ ys. sem 𝓛 (SliceFinal α γ ys);
      lend = lend_cells 𝓛 R b xs room;
      back = slice-returns;
    }

    abbrev pub shared_slice_loan : Shares 𝓛 R [] → Loan 𝓛
    shared_slice_loan shares = record {
      Value = Unit {0};
      before = Cells xs;
      after = λ _. Cells xs;
      given = λ α γ. sem 𝓛 ((ShrSlice (named 0) (α ∷ []) R).own_val (shared_to b xs) (slice_val (b, 0) (length xs) ∷ []));
      aside = λ α γ. A.lent (α ∷ []) (Parts 𝓛 R b xs);
      final = λ α γ _. emp 𝓤;
      lend = share_cells 𝓛 R shares b xs room;
      back = λ α γ _. qed 𝓛 (‵ (flft (α ∷ []) full_share) ∷ ‵ (flent (α ∷ []) (Parts 𝓛 R b xs)) ∷ raw (emp 𝓤) ∷ []) ∵ keep ! (0 ∷ 1 ∷ []) $ by ! (shared_back 𝓛 R b α xs);
    }

-- ---- a function's arguments: each is lent, with a lifetime of its own, or goes by value and is had for nothing
pub data Arg {M : Type 1} {𝓤 : Ura M} (𝓛 : Logic 𝓤) : Type 2 where
  lent : Loan 𝓛 → Arg 𝓛
  plain : (P : SProp 𝓤) → ent 𝓤 (emp 𝓤) P → Arg 𝓛

module _ {M : Type 1} {𝓤 : Ura M} (𝓛 : Logic 𝓤) where
  -- the lifetimes and the names
  open 𝓛 use {H, A}

  abbrev pub Index : List (Arg 𝓛) → Type 0
  Index [] = Unit {0}
  Index (lent l ∷ as') = (ℕ × GName) × Index as'
  Index (plain P h ∷ as') = Index as'

  -- the last values, in the form in which a contract binds them
  abbrev pub Values : List (Arg 𝓛) → Type 0
  Values [] = Unit {0}
  Values (lent l ∷ as') = l.Value × Values as'
  Values (plain P h ∷ as') = Unit {0} × Values as'

  abbrev pub befores : List (Arg 𝓛) → SProp 𝓤
  befores [] = emp 𝓤
  befores (lent l ∷ as') = sep 𝓤 l.before (befores as')
  befores (plain P h ∷ as') = befores as'

  abbrev pub afters : (as' : List (Arg 𝓛)) → Values as' → SProp 𝓤
  afters [] w = emp 𝓤
  afters (lent l ∷ as') w = sep 𝓤 (l.after w.0) (afters as' w.1)
  afters (plain P h ∷ as') w = afters as' w.1

  abbrev pub tokens : (as' : List (Arg 𝓛)) → Index as' → SProp 𝓤
  tokens [] i = emp 𝓤
  tokens (lent l ∷ as') i = sep 𝓤 (A.lft (i.0.0 ∷ []) full_share) (tokens as' i.1)
  tokens (plain P h ∷ as') i = tokens as' i

  abbrev pub givens : (as' : List (Arg 𝓛)) → Index as' → SProp 𝓤
  givens [] i = emp 𝓤
  givens (lent l ∷ as') i = sep 𝓤 (l.given i.0.0 i.0.1) (givens as' i.1)
  givens (plain P h ∷ as') i = sep 𝓤 P (givens as' i)

  abbrev pub asides : (as' : List (Arg 𝓛)) → Index as' → SProp 𝓤
  asides [] i = emp 𝓤
  asides (lent l ∷ as') i = sep 𝓤 (l.aside i.0.0 i.0.1) (asides as' i.1)
  asides (plain P h ∷ as') i = asides as' i

  abbrev pub finals : (as' : List (Arg 𝓛)) → Index as' → Values as' → SProp 𝓤
  finals [] i w = emp 𝓤
  finals (lent l ∷ as') i w = sep 𝓤 (l.final i.0.0 i.0.1 w.0) (finals as' i.1 w.1)
  finals (plain P h ∷ as') i w = sep 𝓤 (emp 𝓤) (finals as' i w.1)

  abbrev pub Lent : (as' : List (Arg 𝓛)) → Index as' → SProp 𝓤
  Lent as' i = sep 𝓤 (sep 𝓤 (tokens as' i) (givens as' i)) (asides as' i)

  module _ where
    pub lends : (as' : List (Arg 𝓛)) → ent 𝓤 (befores as') (H.⇛ (ex 𝓤 (Lent as')))
    lends [] =
        qed 𝓛 [] ∵ updating ! $ at_once ! $ suffices ! (Lent [] tt) (ex_i 𝓤 (Lent []) tt) $
        use0 𝓛 (raw (emp 𝓤)) (id⊢ 𝓤 (emp 𝓤)) $ use0 𝓛 (raw (emp 𝓤)) (id⊢ 𝓤 (emp 𝓤)) $ join ! $ use0 𝓛 (raw (emp 𝓤)) (id⊢ 𝓤 (emp 𝓤)) $ move ! (1 ∷ 0 ∷ []) $ done !
    lends (lent l ∷ as') =
        qed 𝓛 (raw l.before ∷ raw (befores as') ∷ []) ∵ updating ! $
        use1 𝓛 (later (some (λ (α : ℕ). some (λ (γ : GName). (‵ (flft (α ∷ []) full_share) ⊛ raw (l.given α γ)) ⊛ raw (l.aside α γ))))) l.lend $
        await ! tt $ pick ! (λ α. pick ! (λ γ. move ! (1 ∷ []) $
        use1 𝓛 (later (some (λ (i : Index as'). (raw (tokens as' i) ⊛ raw (givens as' i)) ⊛ raw (asides as' i)))) (lends as') $
        await ! tt $ pick ! (λ i. split ! $ split ! $ move ! (3 ∷ []) $ split ! $ split ! $ at_once ! $
        -- [token; given; aside; tokens; givens; asides]
        suffices ! (Lent (lent l ∷ as') ((α, γ), i)) (ex_i 𝓤 (Lent (lent l ∷ as')) ((α, γ), i)) $
        move ! (2 ∷ 5 ∷ []) $ join ! $ move ! (2 ∷ 4 ∷ []) $ join ! $ move ! (2 ∷ 3 ∷ []) $ join ! $ join ! $ done !)))
    lends (plain P h ∷ as') =
        qed 𝓛 (raw (befores as') ∷ []) ∵ updating ! $
        use1 𝓛 (later (some (λ (i : Index as'). (raw (tokens as' i) ⊛ raw (givens as' i)) ⊛ raw (asides as' i)))) (lends as') $
        await ! tt $ pick ! (λ i. split ! $ split ! $ at_once ! $
        suffices ! (Lent (plain P h ∷ as') i) (ex_i 𝓤 (Lent (plain P h ∷ as')) i) $
        use0 𝓛 (raw P) h $ move ! (0 ∷ 2 ∷ []) $ join ! $ move ! (1 ∷ 0 ∷ []) $ join ! $ done !)

    pub backs : (as' : List (Arg 𝓛)) (i : Index as') (w : Values as') → ent 𝓤 (sep 𝓤 (tokens as' i) (sep 𝓤 (asides as' i) (finals as' i w))) (H.⇛ (afters as' w))
    backs [] i w = qed 𝓛 (raw (emp 𝓤) ∷ raw (emp 𝓤) ∷ raw (emp 𝓤) ∷ []) ∵ updating ! $ at_once ! $ keep ! (0 ∷ []) $ done !
    backs (lent l ∷ as') i w =
        qed 𝓛 ((‵ (flft (i.0.0 ∷ []) full_share) ⊛ raw (tokens as' i.1)) ∷ (raw (l.aside i.0.0 i.0.1) ⊛ raw (asides as' i.1)) ∷ (raw (l.final i.0.0 i.0.1 w.0) ⊛ raw (finals as' i.1 w.1)) ∷ []) ∵ updating ! $
        split ! $ move ! (2 ∷ []) $ split ! $ move ! (4 ∷ []) $ split ! $
        -- [final; finals; aside; asides; token; tokens]
        move ! (4 ∷ 2 ∷ 0 ∷ []) $ use3 𝓛 (later (raw (l.after w.0))) (l.back i.0.0 i.0.1 w.0) $ await ! tt $
        move ! (3 ∷ 2 ∷ 1 ∷ []) $ use3 𝓛 (later (raw (afters as' w.1))) (backs as' i.1 w.1) $ await ! tt $ at_once ! $ move ! (1 ∷ 0 ∷ []) $ done !
    backs (plain P h ∷ as') i w =
        qed 𝓛 (raw (tokens as' i) ∷ raw (asides as' i) ∷ (raw (emp 𝓤) ⊛ raw (finals as' i w.1)) ∷ []) ∵ move ! (2 ∷ []) $ split ! $ keep ! (2 ∷ 3 ∷ 1 ∷ []) $ by ! (backs as' i w.1)

-- ---- a call
module _ {M : Type 1} {𝓤 : Ura M} (𝓛 : Logic 𝓤) (𝓜 : Model 𝓤 𝓛.H) (𝓡 : Running 𝓤 𝓛.H 𝓜) (strict : Strict 𝓤 𝓛 𝓜 𝓡)
    (S : Signature) (ρ : Routine) (c : Spec 𝓤 S) (met : Meets 𝓛 S (𝓡.run ρ) c)
    (ls : List (Arg 𝓛)) (y : Index 𝓛 ls → (triple_of 𝓛 S c).Ghost) (σ : Memory) (G : SProp 𝓤) where
  open 𝓛 use {H}

  abbrev Ix : Type 0
  Ix = Index 𝓛 ls

  abbrev Vs : Type 0
  Vs = Values 𝓛 ls

  abbrev Tok : Ix → SProp 𝓤
  Tok = tokens 𝓛 ls

  abbrev Giv : Ix → SProp 𝓤
  Giv = givens 𝓛 ls

  abbrev Asd : Ix → SProp 𝓤
  Asd = asides 𝓛 ls

  abbrev Fin : Ix → Vs → SProp 𝓤
  Fin = finals 𝓛 ls

  abbrev Aft : Vs → SProp 𝓤
  Aft = afters 𝓛 ls

  abbrev Ensures : (i : Ix) → Res S (y i).0.0 → SProp 𝓤
  Ensures i r = (c (y i).0.0 (y i).0.3).ensures (y i).1 r

  closed : (P : SProp 𝓤) → ent 𝓤 P (sep 𝓤 P (emp 𝓤))
  closed P = via 𝓤 (sep 𝓤 (emp 𝓤) P) (emp∗ 𝓤 P) (comm∗ 𝓤 (emp 𝓤) P)

  -- the lifetimes are ended, and what was lent is there again
  taken : (i : Ix) (w : Vs) → ent 𝓤 (sep 𝓤 (Fin i w) (sep 𝓤 (Tok i) (sep 𝓤 (Asd i) G))) (sep 𝓤 (H.⇛ (Aft w)) G)
  taken i w =
      qed 𝓛 (raw (Fin i w) ∷ raw (Tok i) ∷ raw (Asd i) ∷ raw G ∷ []) ∵ move ! (1 ∷ 2 ∷ 0 ∷ []) $
      use3 𝓛 (later (raw (Aft w))) (backs 𝓛 ls i w) $ done !

  -- the first three are `id⊢` where the arguments are those of the signature, in its order, and there is no `requires`
  pub called : ((i : Ix) → ent 𝓤 (sep 𝓤 (sep 𝓤 (Tok i) (Giv i)) (emp 𝓤)) ((triple_of 𝓛 S c).pre (y i)))
      → ((i : Ix) → ent 𝓤 (alive 𝓛 S (y i).0.0 (y i).0.1) (Tok i))
      → (φ : (i : Ix) → Res S (y i).0.0 → Vs → Type 0)
      → ((i : Ix) (r : Res S (y i).0.0) → ent 𝓤 (Ensures i r) (ex 𝓤 (λ (w : Vs). sep 𝓤 (Fin i w) (fact 𝓤 (φ i r w)))))
      → Satisfies 𝓤 H 𝓜 σ (sep 𝓤 (befores 𝓛 ls) G)
      → ∥ ((i : Ix) × (v : Val) × (σ' : Memory) × (r : Res S (y i).0.0) × (w : Vs) × ends ρ (passed 𝓛 S (y i).0) σ v σ' × Is (type_at S.result (y i).0.0) r (v ∷ []) × φ i r w × Satisfies 𝓤 H 𝓜 σ' (sep 𝓤 (Aft w) G)) ∥₁
  called enters lives φ says s =
      let Le : Ix → SProp 𝓤 = Lent 𝓛 ls in
      ∥∥₁_elim (sat_ex∗ 𝓤 H 𝓜 σ Le G (sat_⇛ 𝓤 H 𝓜 σ (ex 𝓤 Le) G (sat_weaken 𝓤 H 𝓜 σ (mono_l 𝓤 G (lends 𝓛 ls)) s))) ∥∥₁_prop (λ i'.
      let i : Ix = i'.0 in
      let Rest : SProp 𝓤 = sep 𝓤 (Asd i) G in
      ∥∥₁_elim (returns 𝓛 𝓜 𝓡 strict S ρ c met (y i) σ Rest
      (sat_weaken 𝓤 H 𝓜 σ {P = sep 𝓤 (Le i) G} (via 𝓤 (sep 𝓤 (sep 𝓤 (Tok i) (Giv i)) Rest) (assoc∗ 𝓤 (sep 𝓤 (Tok i) (Giv i)) (Asd i) G) (mono_l 𝓤 {P = sep 𝓤 (Tok i) (Giv i)} Rest (via 𝓤 (sep 𝓤 (sep 𝓤 (Tok i) (Giv i)) (emp 𝓤)) (closed (sep 𝓤 (Tok i) (Giv i))) (enters i)))) i'.1))
      ∥∥₁_prop (λ t.
      let Row : RattleType = type_at S.result (y i).0.0 in
      let Live : SProp 𝓤 = alive 𝓛 S (y i).0.0 (y i).0.1 in
      let Ow : SProp 𝓤 = sem 𝓛 (Row.own_val t.2 (t.0 ∷ [])) in
      let B : SProp 𝓤 = sep 𝓤 Live Ow in
      let Q : Vs → SProp 𝓤 = λ w. fact 𝓤 (φ i t.2 w) in
      let E : Vs → SProp 𝓤 = λ w. sep 𝓤 (Fin i w) (Q w) in
      let En : SProp 𝓤 = Ensures i t.2 in
      let Re : SProp 𝓤 = sep 𝓤 B Rest in
      ∥∥₁_elim (sat_ex∗ 𝓤 H 𝓜 t.1 E Re (sat_weaken 𝓤 H 𝓜 t.1 {P = sep 𝓤 (sep 𝓤 B En) Rest}
      (via 𝓤 (sep 𝓤 (sep 𝓤 (ex 𝓤 E) B) Rest) (mono_l 𝓤 {P = sep 𝓤 B En} Rest (via 𝓤 (sep 𝓤 B (ex 𝓤 E)) (mono_r 𝓤 B (says i t.2)) (comm∗ 𝓤 B (ex 𝓤 E)))) (assoc∗ 𝓤 (ex 𝓤 E) B Rest)) t.4)) ∥∥₁_prop (λ u.
      let w : Vs = u.0 in
      let m : SProp 𝓤 = 𝓜.mem t.1 in
      let All : SProp 𝓤 = sep 𝓤 (E w) Re in
      ∥∥₁_elim (sat_fact 𝓤 H 𝓜 t.1 All (φ i t.2 w) (via 𝓤 All (snd∗ 𝓤 m All) (via 𝓤 (E w) (fst∗ 𝓤 (E w) Re) (snd∗ 𝓤 (Fin i w) (Q w)))) u.1) ∥∥₁_prop (λ p.
      ∥∥₁_map (sat_fact 𝓤 H 𝓜 t.1 All (Is Row t.2 (t.0 ∷ [])) (via 𝓤 All (snd∗ 𝓤 m All) (via 𝓤 Re (snd∗ 𝓤 (E w) Re) (via 𝓤 B (fst∗ 𝓤 B Rest) (via 𝓤 Ow (snd∗ 𝓤 Live Ow) (shows 𝓛 Row t.2 (t.0 ∷ [])))))) u.1) (λ q. (
        i,
        t.0,
        t.1,
        t.2,
        w,
        t.3,
        q,
        p,
        sat_⇛ 𝓤 H 𝓜 t.1 (Aft w) G (sat_weaken 𝓤 H 𝓜 t.1 {P = All}
            (via 𝓤 (sep 𝓤 (Fin i w) (sep 𝓤 (Tok i) Rest))
            (mono∗ 𝓤 {P = E w} {Q = Re} (fst∗ 𝓤 (Fin i w) (Q w)) (mono_l 𝓤 {P = B} Rest (via 𝓤 Live (fst∗ 𝓤 Live Ow) (lives i))))
            (taken i w)) u.1),
      ))))))
