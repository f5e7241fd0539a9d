-- The image I, what lies in fresh blocks beside it (B, C), and the rest of memory G: from the order in which the
-- blocks are made to that of the arguments, and back.
use mathlib.Core.List.{[], ◌∷◌}
use seplogic.Ra.Ura.{Ura}
use base.Logic.{SProp, sep, emp, id⊢}
use prog.Memory.{Memory}
use prog.Model.{Model}
use types.Logic.{Logic}
use contract.Running.{Running}
use contract.Adequate.{Satisfies, sat_weaken}
use types.Kit.{raw, ◌⊛◌, ◌$◌, ◌∵◌, !, qed, move, keep, use0, split, join, done}

module _ {M : Type 1} {𝓤 : Ura M} (𝓛 : Logic 𝓤) (𝓜 : Model 𝓤 𝓛.H) (𝓡 : Running 𝓤 𝓛.H 𝓜) (σ : Memory) (I₁ G : SProp 𝓤) where
  open 𝓛 use {H}

  abbrev Sat : SProp 𝓤 → Type 1
  Sat = Satisfies 𝓤 H 𝓜 σ

  abbrev e : SProp 𝓤
  e = emp 𝓤

  pub alone : Sat (sep 𝓤 I₁ G) → Sat (sep 𝓤 (sep 𝓤 I₁ e) G)
  alone s = sat_weaken 𝓤 H 𝓜 σ (qed 𝓛 (raw I₁ ∷ raw G ∷ []) ∵ use0 𝓛 (raw e) (id⊢ 𝓤 e) $ move ! (1 ∷ 0 ∷ []) $ join ! $ done !) s

  -- one fresh block
  pub beside : (B : SProp 𝓤) → Sat (sep 𝓤 B (sep 𝓤 I₁ G)) → Sat (sep 𝓤 (sep 𝓤 I₁ (sep 𝓤 B e)) G)
  beside B s = sat_weaken 𝓤 H 𝓜 σ (qed 𝓛 (raw B ∷ raw I₁ ∷ raw G ∷ []) ∵ use0 𝓛 (raw e) (id⊢ 𝓤 e) $ move ! (1 ∷ 0 ∷ []) $ join ! $ move ! (1 ∷ 0 ∷ []) $ join ! $ done !) s

  -- two of them
  pub beside_two : (B C : SProp 𝓤) → Sat (sep 𝓤 C (sep 𝓤 B (sep 𝓤 I₁ G))) → Sat (sep 𝓤 (sep 𝓤 I₁ (sep 𝓤 B (sep 𝓤 C e))) G)
  beside_two B C s = sat_weaken 𝓤 H 𝓜 σ
      (qed 𝓛 (raw C ∷ raw B ∷ raw I₁ ∷ raw G ∷ []) ∵ use0 𝓛 (raw e) (id⊢ 𝓤 e) $ move ! (1 ∷ 0 ∷ []) $ join ! $ move ! (1 ∷ 0 ∷ []) $ join ! $ move ! (1 ∷ 0 ∷ []) $ join ! $ done !) s

  -- what is there after a call: the image, and the first and the second of the others
  pub kept : (R : SProp 𝓤) → Sat (sep 𝓤 (sep 𝓤 I₁ R) G) → Sat (sep 𝓤 I₁ G)
  kept R s = sat_weaken 𝓤 H 𝓜 σ (qed 𝓛 ((raw I₁ ⊛ raw R) ∷ raw G ∷ []) ∵ split ! $ keep ! (0 ∷ 2 ∷ []) $ done !) s

  pub first : (B R : SProp 𝓤) → Sat (sep 𝓤 (sep 𝓤 I₁ (sep 𝓤 B R)) G) → Sat (sep 𝓤 B G)
  first B R s = sat_weaken 𝓤 H 𝓜 σ (qed 𝓛 ((raw I₁ ⊛ (raw B ⊛ raw R)) ∷ raw G ∷ []) ∵ split ! $ move ! (1 ∷ []) $ split ! $ keep ! (0 ∷ 3 ∷ []) $ done !) s

  pub second : (B C R : SProp 𝓤) → Sat (sep 𝓤 (sep 𝓤 I₁ (sep 𝓤 B (sep 𝓤 C R))) G) → Sat (sep 𝓤 C G)
  second B C R s = sat_weaken 𝓤 H 𝓜 σ (qed 𝓛 ((raw I₁ ⊛ (raw B ⊛ (raw C ⊛ raw R))) ∷ raw G ∷ []) ∵ split ! $ move ! (1 ∷ []) $ split ! $ move ! (1 ∷ []) $ split ! $ keep ! (0 ∷ 4 ∷ []) $ done !) s
