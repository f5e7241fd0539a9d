-- An incomplete telegram is at most 260 bytes long.
use Rattle.std.specs.Prelude.{if◌then◌else◌}
use Rattle.std.proofs.Common.{◌≡◌, ℕ, ◌+◌, ◌-◌, ◌<◌, ◌≤◌, Bool, true, false, not, ◌&&◌, eqb, ltb, List, [], ◌∷◌, length, take, drop, refl, arith, ltb-true}
use Rattle.laws.specs.Words.{at, Bytes}
use Rattle.frame.specs.Frame.{Telegram, ack, short, long, Why, checksum, stop, header, bad_length, start, complete, incomplete, invalid, sum, parse_short_value, parse_body, parse_long_value, parse}

pub never : {A : Type 0} (t : Telegram) (n : ℕ) {m : ℕ} → complete t n ≡ incomplete m → A
never t n e = let z : ◌≡◌ {A = ℕ} 0 1 = cc in absurd (omega arith)

pub never' : {A : Type 0} (w : Why) {m : ℕ} → invalid w ≡ incomplete m → A
never' w e = let z : ◌≡◌ {A = ℕ} 0 1 = cc in absurd (omega arith)

pub short_waits : (bs : List ℕ) {m : ℕ} → parse_short_value bs ≡ incomplete m → length bs < 5
unfolding parse_short_value
short_waits bs {m} e = go (ltb (length bs) 5) refl (eqb (at bs 3) (sum (at bs 1 ∷ at bs 2 ∷ []))) (eqb (at bs 4) 0x16) e
  where
    go : (a : Bool) → ltb (length bs) 5 ≡ a → (b c : Bool)
        → (if a then incomplete (5 - length bs) else (if not b then invalid checksum else (if not c then invalid stop else complete (short (at bs 1) (at bs 2)) 5))) ≡ incomplete m → length bs < 5
    go true h b c f = ltb-true (length bs) 5 h
    go false h false c f = never' checksum f
    go false h true false f = never' stop f
    go false h true true f = never (short (at bs 1) (at bs 2)) 5 f

pub body_waits : {A : Type 0} (l : ℕ) (bs : List ℕ) {m : ℕ} → parse_body l bs ≡ incomplete m → A
unfolding parse_body
body_waits {A} l bs {m} e = go (eqb (at bs (4 + l)) (sum (take l (drop 4 bs)))) (eqb (at bs (5 + l)) 0x16) e
  where
    go : (b c : Bool) → (if not b then invalid checksum else (if not c then invalid stop else complete (long (at bs 4) (at bs 5) (at bs 6) (take (l - 3) (drop 7 bs))) (l + 6))) ≡ incomplete m → A
    go false c f = never' checksum f
    go true false f = never' stop f
    go true true f = never (long (at bs 4) (at bs 5) (at bs 6) (take (l - 3) (drop 7 bs))) (l + 6) f

long_waits : (bs : List ℕ) {m : ℕ} → at bs 1 < 256 → parse_long_value bs ≡ incomplete m → length bs ≤ 260
unfolding parse_long_value
long_waits bs {m} l e = go (ltb (length bs) 4) refl (eqb (at bs 2) (at bs 1) && eqb (at bs 3) 0x68) (ltb (at bs 1) 3) (ltb (length bs) (at bs 1 + 6)) refl e
  where
    go : (a : Bool) → ltb (length bs) 4 ≡ a → (b c d : Bool) → ltb (length bs) (at bs 1 + 6) ≡ d
        → (if a then incomplete (4 - length bs) else (if not b then invalid header else (if c then invalid bad_length else (if d then incomplete (at bs 1 + 6 - length bs) else parse_body (at bs 1) bs)))) ≡ incomplete m → length bs ≤ 260
    go true h b c d k f = omega (arith, ltb-true (length bs) 4 h)
    go false h false c d k f = never' header f
    go false h true true d k f = never' bad_length f
    go false h true false true k f = omega (arith, ltb-true (length bs) (at bs 1 + 6) k)
    go false h true false false k f = body_waits (at bs 1) bs f

second : (b : ℕ) (bs : List ℕ) → Bytes (b ∷ bs) → at (b ∷ bs) 1 < 256
second b [] h = omega arith
second b (c ∷ bs) h = h.1.0

pub waiting_short : (bs : List ℕ) {m : ℕ} → Bytes bs → parse bs ≡ incomplete m → length bs ≤ 260
unfolding parse
waiting_short [] h e = omega arith
waiting_short (b ∷ bs) {m} h e = go (eqb b 0xE5) (eqb b 0x10) (eqb b 0x68) e
  where
    go : (x y z : Bool) → (if x then complete ack 1 else (if y then parse_short_value (b ∷ bs) else (if z then parse_long_value (b ∷ bs) else invalid start))) ≡ incomplete m → length (b ∷ bs) ≤ 260
    go true y z f = never ack 1 f
    go false true z f = omega (arith, short_waits (b ∷ bs) f)
    go false false true f = long_waits (b ∷ bs) (second b bs h) f
    go false false false f = never' start f
