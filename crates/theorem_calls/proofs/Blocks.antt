-- Values that lie in a block of the machine's memory, lent as a slice for a call, and loaded by the machine
-- afterwards. For any type of one machine value; it says nothing of this program.
--     sat-alloc, sat-store         a block is made, and a value is stored to it, by the machine's own `alloc_m` and
--                                  `store_m`
--     lend-cells, cells-back       the values are lent as a `&mut [T]` for a call, and are there again after it, as
--                                  the function left them
--     share_cells, shared_back     the values are lent as a `&[T]`, and are there again as they were
--     holds                        the memory `holding σ xs` has the values xs in its last block
--     loads                        the machine loads the values that a block has
-- Assumes a `Model`, and `Logic`.
use mathlib.Core.Path.{◌≡◌, refl, sym, ap, subst}
use mathlib.Core.Logic.{∥∥₁_prop, ∥∥₁_elim, ∥∥₁_map}
use mathlib.Core.List.{List, [], ◌∷◌}
use mathlib.Core.Option.{some as just}
use Prim.Native.Nat.{ℕ, ◌+◌}
use lib.Dec.{T as Holds}
use lib.ListN.{length, length-map}
use seplogic.Ra.Ura.{Ura}
use base.Fraction.{full_share}
use seplogic.Bi.Sat
use mir.Syntax.{Ty, named, ty_array}
use mir.Val.{Val, vstruct, of_list, has_ty, WT}
use mir.Raw.{raw as raw_ty}
use base.Logic.{SProp, ent, sep, emp, ex, upd, guard, Sat_exists, id⊢, via, mono_l, mono_r, mono∗, ex_i, ex∗, assoc∗, assoc', fst∗, snd∗, guard_e, guard_i, upd_mono, upd_frame}
use base.Fml.{Fml, GName, Incl-refl, feq, fat, fsep, flft, flent}
use prog.Memory.{Memory, size, load_m, store_m, alloc_m}
use prog.Wp.{Heap}
use prog.Model.{Model, elems}
use contract.Monad.{fact_i}
use Rattle.theorem_calls.specs.Lent.{stored, values, array_ty, holding, Loads}
use contract.Adequate.{Satisfies, sat_weaken, sat_upd, sat_fact}
use types.Logic.{Logic, sem}
use types.Kit.{‵, ◌⊛◌, some, later, ◌$◌, ◌∵◌, !, qed, by, move, keep, use1, use2, use3, split, join, pick, rewrite, fsplit, fjoin, feq_i, fpick, fpack, suffices, frame, await, updating, now as at_once, done}
use types.Tokens.{lft_new, lft_end, lent_back}
use types.SemTy.{cells, Arr}
use denote.RattleType.{RattleType}
use denote.Array.{each, array_val, Array-Typed}
use denote.Shadow.{shadow}
use denote.Laws.{Is, Makes, Lawful, shows}
use denote.Memory.{raw_all, lone, cell_raw, part_at, part_of, mem, shares}
use denote.Shares.{Shares}
use denote.Slice.{MutSlice, ShrSlice, slice_val, Room, finally}
use denote.Steps.{owned, peeks}
use denote.Lend.{lends_slice, lends_shr_slice, slice_back, Held}
use denote.Index.{row, whole_out, whole_in}
use types.Share.{arr_parts}

module _ {M : Type 1} (𝓤 : Ura M) (H : Heap 𝓤) (𝓜 : Model 𝓤 H) where
  pub sat_alloc : (σ : Memory) (τ : Ty) (F : SProp 𝓤) → Satisfies 𝓤 H 𝓜 σ F → Satisfies 𝓤 H 𝓜 (alloc_m σ τ) (sep 𝓤 (H.room τ (length σ) 0) F)
  sat_alloc σ τ F =
      let Rm : SProp 𝓤 = H.room τ (length σ) 0 in
      let Di : SProp 𝓤 = H.dies τ (length σ) in
      let m : SProp 𝓤 = 𝓜.mem (alloc_m σ τ) in
      sat_upd 𝓤 H 𝓜 σ (alloc_m σ τ) F (sep 𝓤 Rm F)
      (via 𝓤 (sep 𝓤 (upd 𝓤 (sep 𝓤 m (sep 𝓤 Rm Di))) F) (mono_l 𝓤 F (𝓜.alloc σ τ))
      (via 𝓤 (upd 𝓤 (sep 𝓤 (sep 𝓤 m (sep 𝓤 Rm Di)) F)) (upd_frame 𝓤 (sep 𝓤 m (sep 𝓤 Rm Di)) F)
      (upd_mono 𝓤 (via 𝓤 (sep 𝓤 m (sep 𝓤 (sep 𝓤 Rm Di) F)) (assoc∗ 𝓤 m (sep 𝓤 Rm Di) F) (mono_r 𝓤 m (mono_l 𝓤 F (fst∗ 𝓤 Rm Di)))))))

  pub sat_store : (σ : Memory) (τ : Ty) (b o : ℕ) (v : Val) (F : SProp 𝓤) → Holds (has_ty τ v) → WT v → Satisfies 𝓤 H 𝓜 σ (sep 𝓤 (H.room τ b o) F)
      → ∥ ((σ' : Memory) × (store_m σ τ b o v ≡ just σ') × Satisfies 𝓤 H 𝓜 σ' (sep 𝓤 (H.at full_share τ b o v) F)) ∥₁
  unfolding Satisfies
  sat_store σ τ b o v F ty wt s =
      let Rm : SProp 𝓤 = H.room τ b o in
      let At : SProp 𝓤 = H.at full_share τ b o v in
      let φ : Memory → Type 0 = λ σ'. store_m σ τ b o v ≡ just σ' in
      let Up : Memory → SProp 𝓤 = λ σ'. upd 𝓤 (sep 𝓤 (𝓜.mem σ') (sep 𝓤 At F)) in
      ∥∥₁_elim (Sat_exists 𝓤 (λ (σ' : Memory). guard 𝓤 (φ σ') (Up σ')) (Sat.mono 𝓤.op
      (via 𝓤 (sep 𝓤 (sep 𝓤 (𝓜.mem σ) Rm) F) (assoc' 𝓤 (𝓜.mem σ) Rm F)
      (via 𝓤 (sep 𝓤 (ex 𝓤 (λ (σ' : Memory). guard 𝓤 (φ σ') (upd 𝓤 (sep 𝓤 (𝓜.mem σ') At)))) F) (mono_l 𝓤 F (𝓜.room_store σ τ b o v ty wt))
      (ex∗ 𝓤 (λ (σ' : Memory). guard 𝓤 (φ σ') (upd 𝓤 (sep 𝓤 (𝓜.mem σ') At))) F (λ σ'.
      ex∗ 𝓤 (λ (_ : φ σ'). upd 𝓤 (sep 𝓤 (𝓜.mem σ') At)) F (λ e.
      via 𝓤 (Up σ') (via 𝓤 (upd 𝓤 (sep 𝓤 (sep 𝓤 (𝓜.mem σ') At) F)) (upd_frame 𝓤 (sep 𝓤 (𝓜.mem σ') At) F) (upd_mono 𝓤 (assoc∗ 𝓤 (𝓜.mem σ') At F)))
      (via 𝓤 (guard 𝓤 (φ σ') (Up σ')) (guard_i 𝓤 (φ σ') (Up σ') e) (ex_i 𝓤 (λ (ρ : Memory). guard 𝓤 (φ ρ) (Up ρ)) σ'))))))) s)) ∥∥₁_prop (λ t.
      ∥∥₁_map (Sat_exists 𝓤 (λ (_ : φ t.0). Up t.0) t.1) (λ u. (t.0, u.0, Sat.bupd 𝓤 (sep 𝓤 (𝓜.mem t.0) (sep 𝓤 At F)) u.1)))

-- ---- the same for a slice of any type, a struct's too: what lies at a block is lent for a call, and is there again
-- after it, as the function left it
module _ {M : Type 1} {𝓤 : Ura M} (𝓛 : Logic 𝓤) (R : RattleType) where
  open 𝓛 use {H, A}

  abbrev pub LentOf : ℕ → List R.Denot → ℕ → GName → SProp 𝓤
  LentOf b xs α γ =
      sep 𝓤
      (sep 𝓤 (A.lft (α ∷ []) full_share) (sem 𝓛 ((MutSlice (named 0) (α ∷ []) R).own_val (record { ref_ptr = (b, 0); ghost_name = γ; now = xs }) (slice_val (b, 0) (length xs) ∷ []))))
      (A.lent (α ∷ []) (Held R (length xs) b 0 γ))

  pub lend_cells : (b : ℕ) (xs : List R.Denot) → Room R (length xs) → ent 𝓤 (sem 𝓛 (cells (mem R) xs b 0)) (H.⇛ (ex 𝓤 (λ (α : ℕ). ex 𝓤 (LentOf b xs α))))
  lend_cells b xs room =
      qed 𝓛 (‵ (cells (mem R) xs b 0) ∷ []) ∵ updating ! $
      lft_new ! tt (λ α. move ! (1 ∷ []) $
      use1 𝓛 (later (some (λ (γ : GName). ‵ ((MutSlice (named 0) (α ∷ []) R).own_val (record { ref_ptr = (b, 0); ghost_name = γ; now = xs }) (slice_val (b, 0) (length xs) ∷ [])) ⊛ ‵ (flent (α ∷ []) (Held R (length xs) b 0 γ)))))
      (lends_slice 𝓛 R (named 0) (α ∷ []) xs b 0 room) $
      await ! tt $ pick ! (λ γ. split ! $ at_once ! $
      suffices ! (LentOf b xs α γ) (via 𝓤 (ex 𝓤 (LentOf b xs α)) (ex_i 𝓤 (LentOf b xs α) γ) (ex_i 𝓤 (λ (α' : ℕ). ex 𝓤 (LentOf b xs α')) α)) $
      move ! (2 ∷ 0 ∷ 1 ∷ []) $ join ! $ frame ! $ keep ! (0 ∷ []) $ done !))

  -- the same as a `&[T]`
  abbrev pub Parts : ℕ → List R.Denot → Fml
  Parts b xs = (arr_parts (shares R) (length xs)).part full_share xs b 0

  abbrev pub SharedOf : ℕ → List R.Denot → ℕ → GName → SProp 𝓤
  SharedOf b xs α γ =
      sep 𝓤
      (sep 𝓤 (A.lft (α ∷ []) full_share) (sem 𝓛 ((ShrSlice (named 0) (α ∷ []) R).own_val (record { ref_ptr = (b, 0); now = xs }) (slice_val (b, 0) (length xs) ∷ []))))
      (A.lent (α ∷ []) (Parts b xs))

  -- the token of the loan's lifetime serves to lend, and comes back
  share_row : Shares 𝓛 R [] → (b : ℕ) (xs : List R.Denot) → Room R (length xs) → (α γ : ℕ) → ent 𝓤 (sep 𝓤 (sem 𝓛 (Parts b xs)) (A.lft (α ∷ []) full_share)) (H.⇛ (sep 𝓤 (sep 𝓤 (sem 𝓛 ((ShrSlice (named 0) (α ∷ []) R).own_val (record { ref_ptr = (b, 0); now = xs }) (slice_val (b, 0) (length xs) ∷ []))) (A.lent (α ∷ []) (Parts b xs))) (A.lft (α ∷ []) full_share)))
  share_row shared b xs room α γ =
      lends_shr_slice 𝓛 R (named 0) (α ∷ []) full_share xs b 0 room [] shared ((α ∷ [], full_share) ∷ []) (λ a m. ∥∥₁_elim m ∥∥₁_prop (λ k. elim k [ ])) (Incl-refl (α ∷ []))

  pub share_cells : Shares 𝓛 R [] → (b : ℕ) (xs : List R.Denot) → Room R (length xs) → ent 𝓤 (sem 𝓛 (cells (mem R) xs b 0)) (H.⇛ (ex 𝓤 (λ (α : ℕ). ex 𝓤 (SharedOf b xs α))))
  share_cells shared b xs room =
      qed 𝓛 (‵ (cells (mem R) xs b 0) ∷ []) ∵ updating ! $ use1 𝓛 (‵ (row R full_share xs b 0)) (whole_out 𝓛 R xs b 0) $ feq_i ! ℕ (length xs) (length xs) refl $ fjoin ! $
      lft_new ! tt (λ α. move ! (1 ∷ []) $
      use2 𝓛 (later ((‵ ((ShrSlice (named 0) (α ∷ []) R).own_val (record { ref_ptr = (b, 0); now = xs }) (slice_val (b, 0) (length xs) ∷ [])) ⊛ ‵ (flent (α ∷ []) (Parts b xs))) ⊛ ‵ (flft (α ∷ []) full_share)))
      (share_row shared b xs room α 0) $
      await ! tt $ split ! $ split ! $ at_once ! $
      suffices ! (SharedOf b xs α 0) (via 𝓤 (ex 𝓤 (SharedOf b xs α)) (ex_i 𝓤 (SharedOf b xs α) 0) (ex_i 𝓤 (λ (α' : ℕ). ex 𝓤 (SharedOf b xs α')) α)) $
      move ! (2 ∷ 0 ∷ 1 ∷ []) $ join ! $ frame ! $ keep ! (0 ∷ []) $ done !)

  -- they are there again, as they were
  pub shared_back : (b α : ℕ) (xs : List R.Denot) → ent 𝓤 (sep 𝓤 (A.lft (α ∷ []) full_share) (A.lent (α ∷ []) (Parts b xs))) (H.⇛ (sem 𝓛 (cells (mem R) xs b 0)))
  shared_back b α xs =
      qed 𝓛 (‵ (flft (α ∷ []) full_share) ∷ ‵ (flent (α ∷ []) (Parts b xs)) ∷ []) ∵ updating ! $ lft_end ! tt $ lent_back ! tt $ at_once ! $ fsplit ! $ keep ! (1 ∷ []) $ by ! (whole_in 𝓛 R xs b 0)

  pub cells_back : (b α : ℕ) (γ : GName) (n : ℕ) (ys : List R.Denot)
      → ent 𝓤 (sep 𝓤 (A.lft (α ∷ []) full_share) (sep 𝓤 (A.lent (α ∷ []) (Held R n b 0 γ)) (sem 𝓛 (finally R γ ys)))) (H.⇛ (sem 𝓛 (cells (mem R) ys b 0)))
  cells_back b α γ n ys =
      qed 𝓛 (‵ (flft (α ∷ []) full_share) ∷ ‵ (flent (α ∷ []) (Held R n b 0 γ)) ∷ ‵ (finally R γ ys) ∷ []) ∵ updating ! $ lft_end ! tt $
      use3 𝓛 (later (‵ ((Arr (mem R) n).own_at ys b 0))) (slice_back 𝓛 R (α ∷ []) γ ys n b 0) $ await ! tt $ at_once ! $
      by ! (snd∗ 𝓤 (sem 𝓛 (feq ℕ (length ys) n)) (sem 𝓛 (cells (mem R) ys b 0)))

-- ---- a row of one machine value, whose value is written by `val`
module _ (R : RattleType) (τ : Ty) (val : R.Denot → Val) (mir_is : R.mir ≡ τ ∷ []) (val_is : (x : R.Denot) (vs : List Val) → Is R x vs → vs ≡ val x ∷ []) where
  abbrev pub AllIs : List R.Denot → Type 0
  AllIs [] = Unit {0}
  AllIs (x ∷ xs) = Is R x (val x ∷ []) × AllIs xs

  each-is : (xs : List R.Denot) → AllIs xs → shadow (each R.Denot R.own_val xs (values τ val xs))
  each-is [] is = tt
  each-is (x ∷ xs) is = (is.0, each-is xs is.1)

  size_is : size τ ≡ (mem R).size
  size_is = ap (λ (τs : List Ty). size (lone τs)) (sym mir_is)

  module _ {M : Type 1} {𝓤 : Ura M} (𝓛 : Logic 𝓤) (𝓜 : Model 𝓤 𝓛.H) (makes : Makes 𝓛 R (Is R)) (lawful : Lawful 𝓛 R) where
    open 𝓛 use {H}

    part_in : (x : R.Denot) → Is R x (val x ∷ []) → (b o : ℕ) → ent 𝓤 (H.at full_share τ b o (val x)) (sem 𝓛 (part_at R full_share x b o))
    unfolding part_of
    part_in x is b o =
        subst (λ (τs : List Ty). ent 𝓤 (H.at full_share τ b o (val x)) (sem 𝓛 (part_of (raw_all τs) R.own_val full_share x b o))) (sym mir_is)
        (qed 𝓛 (‵ (fat full_share τ b o (val x)) ∷ []) ∵ use1 𝓛 (‵ (fat full_share (raw_ty τ) b o (val x))) (𝓛.laws.at_raw full_share τ b o (val x)) $ owned ! R (Is R) makes x _ is $ move ! (1 ∷ 0 ∷ []) $ fjoin ! $
        fpack ! (List Val) (λ vs. fsep (cell_raw full_share (raw_ty τ ∷ []) vs b o) (R.own_val x vs)) (val x ∷ []) $ done !)

    part_out : (y : R.Denot) (b o : ℕ) → ent 𝓤 (sem 𝓛 (part_at R full_share y b o)) (H.at full_share τ b o (val y))
    unfolding part_of
    part_out y b o =
        subst (λ (τs : List Ty). ent 𝓤 (sem 𝓛 (part_of (raw_all τs) R.own_val full_share y b o)) (H.at full_share τ b o (val y))) (sym mir_is)
        (qed 𝓛 (‵ (part_of (raw_ty τ ∷ []) R.own_val full_share y b o) ∷ []) ∵ fpick ! (λ vs. fsplit ! $ move ! (1 ∷ []) $ peeks ! R (Is R) (shows 𝓛 R) y vs (λ is.
        rewrite ! 1 (λ (us : List Val). ‵ (cell_raw full_share (raw_ty τ ∷ []) us b o)) (val_is y vs is) refl $ keep ! (1 ∷ []) $ by ! (𝓛.laws.raw_at full_share τ b o (val y)))))

    elems_in : (xs : List R.Denot) → AllIs xs → (b o : ℕ) → ent 𝓤 (elems 𝓤 H full_share τ b o (values τ val xs)) (sem 𝓛 (cells (mem R) xs b o))
    elems_in [] is b o = id⊢ 𝓤 (emp 𝓤)
    elems_in (x ∷ xs) is b o = mono∗ 𝓤 (part_in x is.0 b o) (subst (λ (k : ℕ). ent 𝓤 (elems 𝓤 H full_share τ b (o + size τ) (values τ val xs)) (sem 𝓛 (cells (mem R) xs b (o + k)))) size_is (elems_in xs is.1 b (o + size τ)))

    typed : (xs : List R.Denot) → AllIs xs → Holds (has_ty (array_ty τ val xs) (vstruct (of_list (values τ val xs)))) × WT (vstruct (of_list (values τ val xs)))
    typed xs is =
        subst (λ (τs : List Ty). Holds (has_ty (ty_array (lone τs) (length (values τ val xs))) (vstruct (of_list (values τ val xs)))) × WT (vstruct (of_list (values τ val xs)))) mir_is
        (Array-Typed R lawful.typed (length (values τ val xs)) xs (array_val (values τ val xs) ∷ []) (values τ val xs, ((refl, sym (length-map xs val)), each-is xs is))).0

    pub holds : (σ : Memory) (F : SProp 𝓤) → Satisfies 𝓤 H 𝓜 σ F → (xs : List R.Denot) → AllIs xs → ∥ Satisfies 𝓤 H 𝓜 (holding τ val σ xs) (sep 𝓤 (sem 𝓛 (cells (mem R) xs (length σ) 0)) F) ∥₁
    holds σ F s xs is =
        ∥∥₁_map (sat_store 𝓤 H 𝓜 (alloc_m σ (array_ty τ val xs)) (array_ty τ val xs) (length σ) 0 (vstruct (of_list (values τ val xs))) F (typed xs is).0 (typed xs is).1 (sat_alloc 𝓤 H 𝓜 σ (array_ty τ val xs) F s)) (λ t.
        subst (λ (ρ : Memory). Satisfies 𝓤 H 𝓜 ρ (sep 𝓤 (sem 𝓛 (cells (mem R) xs (length σ) 0)) F)) (sym (ap stored t.1))
        (sat_weaken 𝓤 H 𝓜 t.0 (mono_l 𝓤 F (via 𝓤 (elems 𝓤 H full_share τ (length σ) 0 (values τ val xs)) (𝓜.at_elems full_share τ (length (values τ val xs)) (length σ) 0 (values τ val xs)) (elems_in xs is (length σ) 0))) t.2))

    pub loads : (ys : List R.Denot) (b o : ℕ) (σ : Memory) (F : SProp 𝓤) → Satisfies 𝓤 H 𝓜 σ (sep 𝓤 (sem 𝓛 (cells (mem R) ys b o)) F) → ∥ Loads τ val σ b o ys ∥₁
    loads [] b o σ F s = ∣ tt ∣₁
    loads (y ∷ ys) b o σ F s =
        let Pa : SProp 𝓤 = sem 𝓛 (part_at R full_share y b o) in
        let At : SProp 𝓤 = H.at full_share τ b o (val y) in
        let Re : SProp 𝓤 = sem 𝓛 (cells (mem R) ys b (o + (mem R).size)) in
        let m : SProp 𝓤 = 𝓜.mem σ in
        let φ : Type 0 = load_m σ τ b o ≡ just (val y) in
        ∥∥₁_elim (loads ys b (o + size τ) σ F (sat_weaken 𝓤 H 𝓜 σ (mono_l 𝓤 F (via 𝓤 Re (snd∗ 𝓤 Pa Re) (subst (λ (k : ℕ). ent 𝓤 (sem 𝓛 (cells (mem R) ys b (o + k))) (sem 𝓛 (cells (mem R) ys b (o + size τ)))) size_is (id⊢ 𝓤 (sem 𝓛 (cells (mem R) ys b (o + size τ))))))) s)) ∥∥₁_prop (λ r.
        ∥∥₁_map (sat_fact 𝓤 H 𝓜 σ (sep 𝓤 (sep 𝓤 Pa Re) F) φ
        (via 𝓤 (sep 𝓤 m At) (mono_r 𝓤 m (via 𝓤 (sep 𝓤 Pa Re) (fst∗ 𝓤 (sep 𝓤 Pa Re) F) (via 𝓤 Pa (fst∗ 𝓤 Pa Re) (part_out y b o))))
        (via 𝓤 (guard 𝓤 φ (sep 𝓤 m At)) (𝓜.at_load σ full_share τ b o (val y)) (guard_e 𝓤 φ (sep 𝓤 m At) (λ e. fact_i 𝓤 φ (sep 𝓤 m At) e)))) s) (λ e. (e, r)))
