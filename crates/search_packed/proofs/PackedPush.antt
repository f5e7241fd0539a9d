-- An entry into a walk's array.
use Rattle.std.proofs.Common.{◌≡◌, ℕ, ◌+◌, ◌<◌, ◌≤◌, Bool, List, length, take, set, add-one, arith, length-take, take-suc-set, le-ltb, lt-ltb}
use Rattle.list_open.specs.Opening.{capacity}
use Rattle.search_packed.specs.ProgramPacked.{walking, goes_to, packed_note, packed_push}

module _ (ks ss : List ℕ) (allowance : ℕ) (es : List ℕ) (n probes : ℕ) (spent : Bool) (e : ℕ) (room : length es ≡ capacity) where
  pub push_room : n < capacity → let w = walking ks ss allowance es n probes spent in
      walking ks ss allowance (set es n e) (n + 1) probes spent ≡ goes_to w (packed_note e w.run.marks w.run)
  unfolding walking packed_push
  push_room h = rw (lt-ltb (length (take n es)) capacity (omega (arith, length-take n es)), add-one, take-suc-set es n e (omega arith))

  pub push_full : capacity ≤ n → let w = walking ks ss allowance es n probes spent in w ≡ goes_to w (packed_note e w.run.marks w.run)
  unfolding walking packed_push
  push_full h = rw (le-ltb (length (take n es)) capacity (omega (arith, length-take n es)))
