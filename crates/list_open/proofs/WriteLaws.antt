-- Records written in the layout and read back are the records.
use mathlib.Core.Path.{◌≡◌, refl, ap}
use mathlib.Core.Bool.{Bool}
use mathlib.Core.List.{List, [], ◌∷◌, ◌++◌}
use Prim.Native.Nat.{ℕ, zero, suc, ◌+◌, ◌-◌, ◌*◌, ◌/◌, ◌%◌, ◌≤◌, ◌<◌, ◌^◌}
use native.Mathlib.Omega.{arith}
use lib.ListN.{length, drop, length-append}
use lib.Seq.{take-append_seam, drop-append_seam}
use borrow.Author.Tests.{le-leb, le-ltb, eq-eqb}
use Rattle.laws.specs.Words.{Every}
use Rattle.list.specs.Layout.{Listed, texts, first_text, read_texts, fits, made, read_records}
use Rattle.list_open.specs.Opening.{open_records, open_list_value}
use Rattle.list.specs.Written.{write_texts, write_rest, write_records_value, write_list_value, InLayout}

le_append : (xs ys : List ℕ) → length xs ≤ length (xs ++ ys)
le_append xs ys = rw length-append (omega arith)

texts_back : (ts : List (List ℕ)) → read_texts (length ts) (write_texts ts) ≡ texts ts
unfolding read_texts write_texts
texts_back [] = refl
texts_back (t ∷ ts) =
    rw (le-leb (length t) (length (t ++ write_texts ts)) (le_append t (write_texts ts)), take-append_seam t (write_texts ts), drop-append_seam t (write_texts ts))
    (ap (first_text t) (texts_back ts))

big_back : (n : ℕ) → n < 2 ^ 32 → ((n / 0x1000000 % 256 * 256 + n / 0x10000 % 256) * 256 + n / 0x100 % 256) * 256 + n % 256 ≡ n
big_back n h = rw (two, three) (sums (n % 256) (n / 0x100) (n / 0x100 % 256) (n / 0x100 / 256) (n / 0x100 / 256 % 256) (n / 0x100 / 256 / 256) (omega arith) (omega arith) (omega arith) (omega arith))
  where
    two : n / 0x10000 ≡ n / 0x100 / 256
    two = omega arith

    three : n / 0x1000000 ≡ n / 0x100 / 256 / 256
    three = omega arith

    -- n, its quotients by 256 one after another, and their remainders
    sums : (d a c b e f : ℕ) → n ≡ a * 256 + d → a ≡ b * 256 + c → b ≡ f * 256 + e → f < 256 → ((f % 256 * 256 + e) * 256 + c) * 256 + d ≡ n
    sums d a c b e f p q r z = let w : f % 256 ≡ f = omega arith in rw w (omega arith)

made_back : (r : Listed) (rs : List Listed) → r.baud < 2 ^ 32
    → made (write_rest r) (texts (r.id ∷ r.manufacturer ∷ r.medium ∷ r.fault ∷ [])) (fits rs) ≡ fits (r ∷ rs)
unfolding write_rest
made_back r rs h = rw (big_back r.baud h)

six : (r : Listed) → 6 ≤ length (write_rest r)
unfolding write_rest
six r = omega arith

rest_texts : (r : Listed) → read_texts 4 (drop 6 (write_rest r)) ≡ texts (r.id ∷ r.manufacturer ∷ r.medium ∷ r.fault ∷ [])
unfolding write_rest
rest_texts r = texts_back (r.id ∷ r.manufacturer ∷ r.medium ∷ r.fault ∷ [])

pub records_back : (n : ℕ) (rs : List Listed) → length rs ≤ n → Every InLayout rs → read_records n (write_records_value rs) ≡ fits rs
unfolding read_records write_records_value
records_back zero [] h k = refl
records_back (suc n) [] h k = refl
records_back zero (r ∷ rs) h k = absurd (omega arith)
records_back (suc n) (r ∷ rs) h k =
    rw (
      le-leb 6 (length (write_rest r)) (six r),
      le-leb (length (write_rest r)) (length (write_rest r ++ write_records_value rs)) (le_append (write_rest r) (write_records_value rs)),
      take-append_seam (write_rest r) (write_records_value rs),
      drop-append_seam (write_rest r) (write_records_value rs),
      rest_texts r,
      records_back n rs (omega arith) k.1,
    )
    (made_back r rs k.0.baud)

few : (rs : List Listed) → length rs ≤ length (write_records_value rs)
unfolding write_records_value
few [] = omega arith
few (r ∷ rs) = let m = few rs in rw length-append (omega arith)

-- a whole list: what is written opens as its records do
pub list_back : (rs : List Listed) (bus : ℕ) (practice : Bool) → Every InLayout rs → length (write_records_value rs) < 0x10000
    → open_list_value (write_list_value rs) bus practice ≡ open_records bus practice (fits rs)
unfolding open_list_value write_list_value
list_back rs bus practice k h =
    let l : 3 ≤ suc (suc (suc (length (write_records_value rs)))) = omega arith in
    let c : length (write_records_value rs) / 256 * 256 + length (write_records_value rs) % 256 ≡ suc (suc (suc (length (write_records_value rs)))) - 3 = omega arith in
    let f : length rs ≤ suc (suc (suc (length (write_records_value rs)))) = omega (arith, few rs) in
    rw (
      le-ltb (suc (suc (suc (length (write_records_value rs))))) 3 l,
      eq-eqb (length (write_records_value rs) / 256 * 256 + length (write_records_value rs) % 256) (suc (suc (suc (length (write_records_value rs)))) - 3) c,
      records_back (suc (suc (suc (length (write_records_value rs))))) rs f k,
    )
