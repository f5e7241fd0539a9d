-- One law for each way through a probe and a row of the packed walk.
use Rattle.std.proofs.Common.{◌≡◌, ℕ, zero, suc, ◌+◌, ◌-◌, ◌*◌, ◌/◌, ◌<◌, ◌≤◌, List, refl, arith, eq-eqb, ne_eqb, le-leb, leb, leb-true, leb-false, Bool, true, false, Option, Some, None, unwrap_or, sym, ap, ◌∙◌, subst}
use borrow.Author.Tests.{lt-leb}
use Rattle.std.proofs.lemmas.Option.{none-some}
use Rattle.list_open.specs.Opening.{capacity}
use Rattle.search_packed.specs.ProgramMarks.{masked, acked, read_key_value, read_by, swept_by, fold_by}
use Rattle.search_packed.specs.ProgramPacked.{PackedRun, Walking, Asked, Once, walking, goes_to, several_of, packed_once, packed_heard, packed_note, packed_count, packed_stop, packed_walk, packed_row, span_of}

module _ (ks : List ℕ) (allowance low high : ℕ) (t : PackedRun) where
  pub once_stop : allowance ≤ t.probes → record { many = 0; run = packed_stop t } ≡ packed_once ks allowance low high t
  unfolding packed_once
  once_stop h = rw (le-leb allowance t.probes h)

  module _ (paid : t.probes < allowance) (n : ℕ) (ss : List ℕ)
      (es : ss ≡ swept_by (masked low high) capacity ks t.marks) (en : n ≡ fold_by (acked low high) 0 capacity ks t.marks) where
    once_paid : packed_heard ks high n ss t ≡ packed_once ks allowance low high t
    unfolding packed_once
    once_paid = rw (lt-leb allowance t.probes paid) (rw (es, en))

    pub once_one : n ≡ 1 → record { many = 0; run = packed_note (fold_by read_key_value high capacity ks ss) (swept_by read_by capacity ks ss) (packed_count ss t) } ≡ packed_once ks allowance low high t
    once_one h = rw (eq-eqb n 1 h) at once_paid

    pub once_other : (n ≡ 1 → ⊥) → record { many = n; run = packed_count ss t } ≡ packed_once ks allowance low high t
    once_other h = rw (ne_eqb n 1 h) at once_paid

-- the program's word for how many answered
pub several_is : (n : ℕ) → (n ≡ 0 → ⊥) → Some n ≡ several_of n
several_is zero h = absurd (h refl)
several_is (suc n) h = refl

pub not_several : (n : ℕ) → None ≡ several_of n → n ≡ 0
not_several zero e = refl
not_several (suc n) e = absurd (none-some (suc n) e)

pub several_back : (n m : ℕ) → Some m ≡ several_of n → (n ≡ m) × (n ≡ 0 → ⊥)
several_back zero m e = absurd (none-some m (sym e))
several_back (suc n) m e = (ap (λ (o : Option ℕ). unwrap_or o 0) (sym e), λ z. absurd (omega (arith, z)))

asked_by : (w : Walking) (low high : ℕ) (o : Once) (many : Option ℕ) (v : Walking) → o ≡ packed_once w.keys w.allowance low high w.run
    → many ≡ several_of o.many → v ≡ goes_to w o.run → Asked w low high many v
asked_by w low high o many v e m g = record { answered = m ∙ ap (λ (p : Once). several_of p.many) e; walk = g ∙ ap (λ (p : Once). goes_to w p.run) e }

-- the program's probe of the mask low..high, by how many acknowledged
module _ {w : Walking} (low high : ℕ) (ks ss : List ℕ) (allowance : ℕ) (es : List ℕ) (found probes : ℕ) (spent : Bool) (is : walking ks ss allowance es found probes spent ≡ w) where
  pub asked_stop : leb allowance probes ≡ true → Asked w low high None (walking ks ss allowance es found probes (leb allowance probes))
  unfolding walking
  asked_stop h =
      let v = walking ks ss allowance es found probes spent in
      subst (λ u. Asked u low high None (walking ks ss allowance es found probes (leb allowance probes))) is
      (asked_by v low high (record { many = 0; run = packed_stop v.run }) _ _ (once_stop ks allowance low high v.run (leb-true allowance probes h)) refl (ap (λ b. walking ks ss allowance es found probes b) h))

  module _ (paid : leb allowance probes ≡ false) (n : ℕ) (ms : List ℕ) (em : ms ≡ swept_by (masked low high) capacity ks ss) (en : n ≡ fold_by (acked low high) 0 capacity ks ss) where
    asked_other : (many : Option ℕ) → (n ≡ 1 → ⊥) → many ≡ several_of n → Asked w low high many (walking ks ms allowance es found (probes + 1) (leb allowance probes))
    unfolding walking
    asked_other many h e =
        let v = walking ks ss allowance es found probes spent in
        subst (λ u. Asked u low high many (walking ks ms allowance es found (probes + 1) (leb allowance probes))) is
        (asked_by v low high (record { many = n; run = packed_count ms v.run }) _ _ (once_other ks allowance low high v.run (leb-false allowance probes paid) n ms em en h) e (ap (λ b. walking ks ms allowance es found (probes + 1) b) paid))

    pub asked_none : n ≡ 0 → Asked w low high None (walking ks ms allowance es found (probes + 1) (leb allowance probes))
    asked_none h = asked_other None (λ e. absurd (omega (arith, h, e))) (ap several_of (sym h))

    pub asked_many : (n ≡ 0 → ⊥) → (n ≡ 1 → ⊥) → Asked w low high (Some n) (walking ks ms allowance es found (probes + 1) (leb allowance probes))
    asked_many z h = asked_other (Some n) h (several_is n z)

    pub asked_one : n ≡ 1 → (e h : ℕ) (rs : List ℕ) → h ≡ high → e ≡ fold_by read_key_value h capacity ks ms → rs ≡ swept_by read_by capacity ks ms
        → (v : Walking) → (let u = walking ks rs allowance es found (probes + 1) (leb allowance probes) in v ≡ goes_to u (packed_note e u.run.marks u.run)) → Asked w low high None v
    unfolding walking
    asked_one one e h rs eh ee er v ev =
        let a = walking ks ss allowance es found probes spent in
        let o : Once = record { many = 0; run = packed_note (fold_by read_key_value high capacity ks ms) (swept_by read_by capacity ks ms) (packed_count ms a.run) } in
        let same : v ≡ goes_to a o.run = rw (ev, ee, eh, er, paid) refl in
        subst (λ u. Asked u low high None v) is
        (asked_by a low high o _ _ (once_one ks allowance low high a.run (leb-false allowance probes paid) n ms em en one) refl same)

-- what follows one probe
module _ (ks : List ℕ) (allowance low : ℕ) (t : PackedRun) (o : Once) where
  pub walk-done : (u : ℕ) → o ≡ packed_once ks allowance low (low + span_of u) t → o.many ≡ 0 → o.run ≡ packed_walk ks allowance u low t
  unfolding packed_walk
  walk-done zero e h = simp (← e, eq-eqb o.many 0 h)
  walk-done (suc u) e h = simp (← e, eq-eqb o.many 0 h)

  pub walk_many : (u : ℕ) → o ≡ packed_once ks allowance low (low + span_of u) t → (o.many ≡ 0 → ⊥) → u ≡ 0
      → packed_note (o.many * 0x100000000 + low) o.run.marks o.run ≡ packed_walk ks allowance u low t
  unfolding packed_walk
  walk_many zero e h z = simp (← e, ne_eqb o.many 0 h)
  walk_many (suc u) e h z = absurd (omega arith)

  pub walk-row : (u : ℕ) → o ≡ packed_once ks allowance low (low + span_of u) t → (o.many ≡ 0 → ⊥) → (u ≡ 0 → ⊥) → (s : ℕ) → s ≡ span_of (u - 1)
      → packed_row (packed_walk ks allowance (u - 1)) (s + 1) 10 low o.run ≡ packed_walk ks allowance u low t
  unfolding packed_walk
  walk-row zero e h z s q = absurd (z refl)
  walk-row (suc u) e h z s q =
      let v : suc u - 1 ≡ u = omega arith in
      simp (← e, ne_eqb o.many 0 h, q, v)

-- the program's walk after its probe v, which says how many answered
module _ (w : Walking) (low u s : ℕ) (e : s ≡ span_of u) (v : Walking) where
  asked_as : {many : Option ℕ} → Asked w low (low + s) many v → let o = packed_once w.keys w.allowance low (low + span_of u) w.run in (many ≡ several_of o.many) × (v ≡ goes_to w o.run)
  asked_as a =
      (a.answered ∙ ap (λ r. several_of (packed_once w.keys w.allowance low (low + r) w.run).many) e, a.walk ∙ ap (λ r. goes_to w (packed_once w.keys w.allowance low (low + r) w.run).run) e)

  pub walks_done : Asked w low (low + s) None v → v ≡ goes_to w (packed_walk w.keys w.allowance u low w.run)
  walks_done a =
      let b = asked_as a in
      b.1 ∙ ap (goes_to w) (walk-done w.keys w.allowance low w.run _ u refl (not_several _ b.0))

  pub walks_many : (many : ℕ) → Asked w low (low + s) (Some many) v → u ≡ 0 → (x : Walking) → x ≡ goes_to v (packed_note (many * 0x100000000 + low) v.run.marks v.run)
      → x ≡ goes_to w (packed_walk w.keys w.allowance u low w.run)
  walks_many many a z x ex =
      let b = asked_as a in
      let m = several_back _ many b.0 in
      let o = packed_once w.keys w.allowance low (low + span_of u) w.run in
      ex ∙ rw (b.1, sym m.0) (ap (goes_to w) (walk_many w.keys w.allowance low w.run o u refl m.1 z))

  pub walks_row : (many : ℕ) → Asked w low (low + s) (Some many) v → (u ≡ 0 → ⊥) → (x : Walking) (r : ℕ) → r ≡ span_of (u - 1)
      → x ≡ goes_to v (packed_row (packed_walk v.keys v.allowance (u - 1)) (r + 1) 10 low v.run) → x ≡ goes_to w (packed_walk w.keys w.allowance u low w.run)
  walks_row many a z x r er ex =
      let b = asked_as a in
      let m = several_back _ many b.0 in
      let o = packed_once w.keys w.allowance low (low + span_of u) w.run in
      ex ∙ rw b.1 (ap (goes_to w) (walk-row w.keys w.allowance low w.run o u refl m.1 z r er))

-- a span and the one below it
pub span_below : (u s : ℕ) → (u ≡ 0 → ⊥) → s ≡ span_of u → (s / 16 ≡ span_of (u - 1)) × (s ≡ 16 * (s / 16) + 15)
unfolding span_of
span_below zero s z e = absurd (z refl)
span_below (suc u) s z e =
    let v : suc u - 1 ≡ u = omega arith in
    (rw v (omega arith), omega arith)

-- n times u
unfoldable pub steps : ℕ → ℕ → ℕ
steps zero u = 0
steps (suc n) u = u + steps n u

pub steps-ten : (s : ℕ) → steps 10 (s + 1) ≡ 10 * s + 10
unfolding steps
steps-ten s = omega arith

pub steps_less : (d u : ℕ) → d < 10 → steps (10 - d) u ≡ u + steps (10 - (d + 1)) u
unfolding steps
steps_less d u h =
    let e : 10 - d ≡ suc (10 - (d + 1)) = omega arith in
    rw e

module _ (f : ℕ → PackedRun → PackedRun) (unit l : ℕ) (t : PackedRun) where
  pub row_step : (d : ℕ) → d < 10 → packed_row f unit (10 - (d + 1)) (l + unit) (f l t) ≡ packed_row f unit (10 - d) l t
  unfolding packed_row
  row_step d h =
      let e : 10 - d ≡ suc (10 - (d + 1)) = omega arith in
      rw e

  pub row_end : (d : ℕ) → 10 ≤ d → packed_row f unit (10 - d) l t ≡ t
  unfolding packed_row
  row_end d h =
      let e : 10 - d ≡ 0 = omega arith in
      rw e
