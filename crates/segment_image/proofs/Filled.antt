-- Bytes 0 behind the bytes in use, and copies over them.
use mathlib.Core.Path.{◌≡◌, sym, ap, ◌∙◌}
use mathlib.Core.List.{List, ◌++◌, append-nil, append_assoc}
use Prim.Native.Nat.{ℕ, ◌+◌, ◌-◌, ◌≤◌}
use native.Mathlib.Nat.{zero-add}
use native.Mathlib.Omega.{arith}
use lib.ListN.{length, take, drop, replicate, length-append, length-replicate, replicate-append-replicate}
use lib.Seq.{paste, take_at, drop_at, take_all, drop-length, length-take-le}
use Rattle.segment_image.specs.Image.{filled}

abbrev zeros : ℕ → List ℕ
zeros n = replicate n 0

-- a list of bytes 0, by its own length
pub zeros_long : (n : ℕ) (l : List ℕ) → l ≡ zeros n → l ≡ zeros (length l)
zeros_long n l e = e ∙ ap zeros (sym (ap length e ∙ length-replicate n 0))

pub drop_zeros : (n m : ℕ) → n ≤ m → drop n (zeros m) ≡ zeros (m - n)
drop_zeros n m h =
    let e : m ≡ n + (m - n) = omega arith in
    ap (λ (k : ℕ). drop n (zeros k)) e ∙ ap (drop n) (sym (replicate-append-replicate n (m - n) 0)) ∙ drop_at (zeros n) (zeros (m - n)) n (length-replicate n 0)

pub length-filled : (n : ℕ) (bs : List ℕ) → length bs ≤ n → length (filled n bs) ≡ n
length-filled n bs h = length-append bs (zeros (n - length bs)) ∙ ap (λ (k : ℕ). length bs + k) (length-replicate (n - length bs) 0) ∙ omega arith

-- as many bytes as there are to be
pub filled-whole : (n : ℕ) (bs : List ℕ) → length bs ≡ n → filled n bs ≡ bs
filled-whole n bs h =
    let e : n - length bs ≡ 0 = omega arith in
    ap (λ (k : ℕ). bs ++ zeros k) e ∙ append-nil bs

-- n bytes of s are copied behind a, over bytes 0
pub paste-filled : (a s : List ℕ) (n k r p : ℕ) → length a ≡ p → n ≤ k → n ≤ length s → paste (a ++ zeros (k + r)) p s n ≡ a ++ filled k (take n s) ++ zeros r
paste-filled a s n k r p l h m =
    let d = a ++ zeros (k + r) in
    let e : k + r ≡ n + (k - n + r) = omega arith in
    let b : length (a ++ zeros n) ≡ p + n = length-append a (zeros n) ∙ omega (arith, l, length-replicate {A = ℕ} n 0) in
    let split : d ≡ a ++ zeros n ++ zeros (k - n + r) =
    ap (λ (j : ℕ). a ++ zeros j) e ∙ ap (λ (x : List ℕ). a ++ x) (sym (replicate-append-replicate n (k - n + r) 0)) ∙ sym (append_assoc a (zeros n) (zeros (k - n + r))) in
    let rest : drop (p + n) d ≡ zeros (k - n) ++ zeros r = ap (drop (p + n)) split ∙ drop_at (a ++ zeros n) (zeros (k - n + r)) (p + n) b ∙ sym (replicate-append-replicate (k - n) r 0) in
    let t = take n s in
    ap (λ (x : List ℕ). x ++ t ++ drop (p + n) d) (take_at a (zeros (k + r)) p l)
    ∙ ap (λ (x : List ℕ). a ++ t ++ x) rest
    ∙ sym (append_assoc (a ++ t) (zeros (k - n)) (zeros r))
    ∙ ap (λ (x : List ℕ). x ++ zeros r) (append_assoc a t (zeros (k - n)))
    ∙ ap (λ (j : ℕ). a ++ (t ++ zeros (k - j)) ++ zeros r) (sym (length-take-le n s m))

-- a copy over the whole of d
pub paste-whole : (d s : List ℕ) → length s ≡ length d → paste d 0 s (length d) ≡ s
paste-whole d s h =
    ap (λ (k : ℕ). take (length d) s ++ drop k d) (zero-add (length d))
    ∙ ap (λ (r : List ℕ). take (length d) s ++ r) (drop-length d)
    ∙ append-nil (take (length d) s)
    ∙ take_all (length d) s (omega arith)
