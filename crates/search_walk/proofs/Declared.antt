-- The walk's entries are 01's.
use mathlib.Core.Path.{◌≡◌, refl, sym, ap, ◌∙◌, fun_ext}
use mathlib.Core.Bool.{Bool, true, false, cond}
use mathlib.Core.List.{List, [], ◌∷◌, ◌++◌, append-nil, drop_last}
use Prim.Native.Nat.{ℕ, zero, suc, ◌+◌, ◌≤◌}
use native.Mathlib.Omega.{arith}
use lib.Seq.{append_snoc}
use lib.ListN.{length, length-append}
use borrow.Author.Tests.{le-leb, eq-eqb, ne_eqb}
use Rattle.laws.specs.Words.{each}
use Rattle.meter.specs.PlainMeter.{PlainMeter}
use Rattle.search_walk.specs.Walk.{Entry, many, ten}
use Rattle.search_walk.specs.Entries.{lone_entry, having, shared, prefixes_up_to, parent_shared, entry_by, entry_at, entries_of}
use Rattle.search_walk.proofs.Sums.{each_none, each_map, each-each}
use Rattle.search_walk.proofs.Cut.{traced, trace, all}
use Rattle.search_walk.proofs.Count.{having_append, unshared}
use Rattle.search_walk.proofs.Limit.{full}

each-prefixes_up_to : {A : Type 0} (n : ℕ) (f : List ℕ → List A) → each (prefixes_up_to (suc n)) f ≡ f [] ++ each ten (λ d. each (prefixes_up_to n) (λ q. f (d ∷ q)))
unfolding prefixes_up_to
each-prefixes_up_to n f = simp (each-each, each_map)

each-prefixes_up_to-zero : {A : Type 0} (f : List ℕ → List A) → each (prefixes_up_to 0) f ≡ f [] ++ []
unfolding prefixes_up_to
each-prefixes_up_to-zero f = refl

-- ---- parents

drop_last_append : (p : List ℕ) (d : ℕ) (q : List ℕ) → drop_last (p ++ d ∷ q) ≡ p ++ drop_last (d ∷ q)
drop_last_append [] d q = refl
drop_last_append (x ∷ []) d q = refl
drop_last_append (x ∷ y ∷ p) d q = ap (λ r. x ∷ r) (drop_last_append (y ∷ p) d q)

parent_append : (ms : List PlainMeter) (p : List ℕ) (d : ℕ) (q : List ℕ) → parent_shared ms (p ++ d ∷ q) ≡ shared ms (p ++ drop_last (d ∷ q))
parent_append ms [] d q = refl
parent_append ms (x ∷ p) d q = ap (shared ms) (drop_last_append (x ∷ p) d q)

-- below a prefix that no two meters share there is no entry
entry_for_few : (p : List ℕ) (hs : List PlainMeter) (w : Bool) → length hs ≤ 1 → entry_by p hs false w ≡ []
entry_for_few p [] w h = refl
entry_for_few p (m ∷ []) w h = refl
entry_for_few p (m ∷ n ∷ hs) w h = absurd (omega arith)

quiet : (ms : List PlainMeter) (p : List ℕ) (d : ℕ) (q : List ℕ) → length (having ms p) ≤ 1 → entry_at ms (p ++ d ∷ q) ≡ []
quiet ms p d q h = rw (parent_append ms p d q, unshared ms p (drop_last (d ∷ q)) h) (entry_for_few _ (having ms (p ++ d ∷ q)) _ (omega (arith, having_append ms p (d ∷ q))))

-- ---- a node

node : (p : List ℕ) (hs : List PlainMeter) (w : Bool) (e : List Entry) (t : List (List Entry)) (rest : List Entry)
    → (length hs ≤ 1 → rest ≡ []) → (2 ≤ length hs → e ++ all t ≡ cond w (many p (length hs) ∷ []) [] ++ rest)
    → all (traced p hs e t) ≡ entry_by p hs true w ++ rest
unfolding all
node p [] w e t rest f g = sym (f (omega arith))
node p (m ∷ []) w e t rest f g = ap (λ r. lone_entry p m ∷ r) (sym (f (omega arith)))
node p (m ∷ n ∷ hs) w e t rest f g = g (omega arith)

pub entries : (u : ℕ) (ms : List PlainMeter) (p : List ℕ) → length p + u ≡ 8 → parent_shared ms p ≡ true
    → all (trace u ms p) ≡ each (prefixes_up_to u) (λ q. entry_at ms (p ++ q))
unfolding trace all
entries zero ms p h up =
    node p (having ms p) true (many p (length (having ms p)) ∷ []) [] [] (λ few. refl) (λ several. refl)
    ∙ sym (each-prefixes_up_to-zero (λ q. entry_at ms (p ++ q)) ∙ simp (append-nil, up, eq-eqb (length p) 8 (omega arith)))
entries (suc u) ms p h up =
    node p (having ms p) false [] (each ten (λ d. trace u ms (p ++ d ∷ []))) (each ten (λ d. each (prefixes_up_to u) (λ q. entry_at ms (p ++ d ∷ q))))
    (λ few. each_none ten _ (λ d. each_none (prefixes_up_to u) _ (λ q. quiet ms p d q few)))
    (λ several. each-each ten (λ d. trace u ms (p ++ d ∷ [])) (λ e. e)
    ∙ ap (each ten) (fun_ext λ d. simp append_snoc at (entries u ms (p ++ d ∷ []) (omega (arith, length-append p (d ∷ [])))
    (parent_append ms p d [] ∙ rw append-nil (le-leb 2 (length (having ms p)) several)))))
    ∙ sym (each-prefixes_up_to u (λ q. entry_at ms (p ++ q)) ∙ simp (append-nil, up, ne_eqb (length p) 8 (λ e. omega arith)))

pub full_declared : (ms : List PlainMeter) → full ms ≡ entries_of ms
unfolding full entries_of
full_declared ms = entries 8 ms [] refl refl
