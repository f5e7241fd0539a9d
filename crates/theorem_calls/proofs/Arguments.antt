-- The calls' arguments: those that fit are values that the machine can hold, and a call is entered with them and left
-- with their last values.
use mathlib.Core.Path.{◌≡◌, refl, subst}
use mathlib.Core.Bool.{Bool}
use mathlib.Core.Logic.{∥∥₁_prop, ∥∥₁_elim, ∥∥₁_map}
use mathlib.Core.List.{List, [], ◌∷◌, map}
use Prim.Native.Nat.{ℕ}
use lib.Ieee.{Float, binary64}
use lib.ListN.{length}
use seplogic.Ra.Ura.{Ura}
use base.Fraction.{full_share}
use mir.Syntax.{w8, w32, ty_int}
use mir.Val.{Val, vint, vbool, vfloat}
use base.Logic.{SProp, ent, sep, emp, via, mono_l, fst∗, snd∗}
use base.Fml.{feq}
use prog.Memory.{Memory}
use prog.Model.{Model}
use contract.Running.{Running}
use contract.Adequate.{Satisfies, sat_weaken, sat_fact}
use types.Logic.{Logic, sem}
use denote.Array.{each, Array}
use denote.ArrayMemory.{Array-apart, Array-whole}
use denote.Builtin.{u8, u32, f64, bool}
use denote.Enum.Laws as enums
use denote.Floats.{float_Makes}
use denote.Index.{row, whole_out, whole_in}
use denote.Laws.{Is}
use denote.Memory.{mem, part_at, shares}
use denote.Plain.{uint_Makes, uint_Lawful, uint_Tells, bool_Makes}
use denote.Shadow.{shadow}
use denote.Copied.{uint_Copied}
use denote.Struct.Laws as structs
use types.Kit.{‵, ◌$◌, ◌∵◌, !, qed, use1, fsplit, fjoin, feq_i, move, by, done}
use types.SemTy.{cells}
use types.Share.{arr_parts}
use Rattle.theorem_calls.specs.Fit.{Byte, Word, Double, Room, FitArray, FitClock, FitRecord}
use Rattle.laws.specs.Words.{Every}
use Rattle.time_clock.specs.declared.Clock.{Clock}
use Rattle.time_clock.specs.contracts.Clock as clock
use Rattle.time_clock.proofs.Clock.TheLaws as clock-laws
use Rattle.search.specs.declared.EntryRecord.{EntryRecord}
use Rattle.search.specs.declared.Kind.{Kind}
use Rattle.search.specs.declared.Kind.TheVariants.{One, Mute, Many}
use Rattle.search.specs.contracts.Kind as kind
use Rattle.search.proofs.Kind.TheLaws as kind-laws
use Rattle.search.specs.contracts.EntryRecord as entry-record
use Rattle.search.proofs.EntryRecord.TheLaws as entry-laws
use Rattle.theorem_calls.specs.Made.{with_bytes, with_records}
use Rattle.theorem_calls.specs.Read.{BytesIn, RecordsIn}
use Rattle.theorem_calls.proofs.Blocks.{AllIs, holds, loads}
use Rattle.theorem_calls.proofs.Loans.{Arg, lent, plain, ref_loan, slice_loan, shared_slice_loan}

clock_vals : (k : Clock) → FitClock k → Is clock.the_row k (structs.vals clock.the_type clock-laws.the_laws k)
clock_vals k f = structs.owes clock.the_type clock-laws.the_laws k ((refl, f.0), ((refl, f.1.0), ((refl, f.1.1.0), ((refl, f.1.1.1.0), ((refl, f.1.1.1.1.0), ((refl, f.1.1.1.1.1), tt))))))

is_clock : (k : Clock) → FitClock k → Is clock.the_row k (clock-laws.lowered k ∷ [])
is_clock k f = subst (λ (vs : List Val). Is clock.the_row k vs) ((clock-laws.lowers).val_is k (structs.vals clock.the_type clock-laws.the_laws k) (clock_vals k f)) (clock_vals k f)

is_kind : (k : Kind) → Is kind.the_row k (enums.vals kind.the_type kind-laws.the_laws k)
is_kind One = enums.owes kind.the_type kind-laws.the_laws One tt
is_kind Mute = enums.owes kind.the_type kind-laws.the_laws Mute tt
is_kind Many = enums.owes kind.the_type kind-laws.the_laws Many tt

each-digit : (ns : List ℕ) → Every Byte ns → shadow (each ℕ u8.own_val ns (map (vint w8) ns))
each-digit [] f = tt
each-digit (n ∷ ns) f = ((refl, f.0), each-digit ns f.1)

record_vals : (e : EntryRecord) → FitRecord e → Is entry-record.the_row e (structs.vals entry-record.the_type entry-laws.the_laws e)
record_vals e f =
    structs.owes entry-record.the_type entry-laws.the_laws e (is_kind e.kind, ((_, ((refl, f.0), each-digit e.digits f.1.0)), ((refl, f.1.1), tt)))

is_record : (e : EntryRecord) → FitRecord e → Is entry-record.the_row e (entry-laws.lowered e ∷ [])
is_record e f = subst (λ (vs : List Val). Is entry-record.the_row e vs) ((entry-laws.lowers).val_is e (structs.vals entry-record.the_type entry-laws.the_laws e) (record_vals e f)) (record_vals e f)

are_records : (es : List EntryRecord) → Every FitRecord es → AllIs entry-record.the_row entry-laws.mir entry-laws.lowered refl (entry-laws.lowers).val_is es
are_records [] f = tt
are_records (e ∷ es) f = (is_record e f.0, are_records es f.1)

are_bytes : (xs : List ℕ) → Every Byte xs → AllIs u8 (ty_int w8) (vint w8) refl (uint_Tells w8) xs
are_bytes [] f = tt
are_bytes (x ∷ xs) f = ((refl, f.0), are_bytes xs f.1)

module _ {M : Type 1} {𝓤 : Ura M} (𝓛 : Logic 𝓤) (𝓜 : Model 𝓤 𝓛.H) (𝓡 : Running 𝓤 𝓛.H 𝓜) where
  -- ---- arguments that go by value are had for nothing

  open 𝓛 use {H}

  pub word_own : (n : ℕ) → Word n → ent 𝓤 (emp 𝓤) (sem 𝓛 (u32.own_val n (vint w32 n ∷ [])))
  word_own n f = uint_Makes 𝓛 w32 n (vint w32 n ∷ []) (refl, f)

  pub double_own : (x : Float) → Double x → ent 𝓤 (emp 𝓤) (sem 𝓛 (f64.own_val x (vfloat binary64 x ∷ [])))
  double_own x f = float_Makes 𝓛 binary64 x (vfloat binary64 x ∷ []) (refl, f)

  abbrev pub word : (n : ℕ) → Word n → Arg 𝓛
  word n f = plain (sem 𝓛 (u32.own_val n (vint w32 n ∷ []))) (word_own n f)

  abbrev pub double : (x : Float) → Double x → Arg 𝓛
  double x f = plain (sem 𝓛 (f64.own_val x (vfloat binary64 x ∷ []))) (double_own x f)

  pub flag_own : (p : Bool) → ent 𝓤 (emp 𝓤) (sem 𝓛 (bool.own_val p (vbool p ∷ [])))
  flag_own p = bool_Makes 𝓛 p (vbool p ∷ []) refl

  abbrev pub flag : Bool → Arg 𝓛
  flag p = plain (sem 𝓛 (bool.own_val p (vbool p ∷ []))) (flag_own p)

  pub clock_own : (k : Clock) → FitClock k → ent 𝓤 (emp 𝓤) (sem 𝓛 ((clock.the_row).own_val k (clock-laws.lowered k ∷ [])))
  clock_own k f = structs.makes clock.the_type clock-laws.the_plain 𝓛 k (clock-laws.lowered k ∷ []) (is_clock k f)

  -- a clock as a struct
  abbrev pub clock_arg : (k : Clock) → FitClock k → Arg 𝓛
  clock_arg k f = plain (sem 𝓛 ((clock.the_row).own_val k (clock-laws.lowered k ∷ []))) (clock_own k f)

  -- a clock's six arguments, before others
  abbrev pub clock_then_lem : (k : Clock) → FitClock k → List (Arg 𝓛) → List (Arg 𝓛)
  clock_then_lem k f as' = double k.now f.0 ∷ word k.year f.1.0 ∷ word k.month f.1.1.0 ∷ word k.day f.1.1.1.0 ∷ word k.hour f.1.1.1.1.0 ∷ word k.minute f.1.1.1.1.1 ∷ as'

  -- ---- arguments that are lent, in block b

  abbrev pub array : (n b : ℕ) → List ℕ → Arg 𝓛
  array n b xs = lent (ref_loan 𝓛 (Array u8 n) b xs)

  abbrev pub bytes : (b : ℕ) (xs : List ℕ) → Room (length xs) 1 → Arg 𝓛
  bytes b xs room = lent (slice_loan 𝓛 u8 b xs room)

  abbrev pub shared_bytes : (b : ℕ) (xs : List ℕ) → Room (length xs) 1 → Arg 𝓛
  shared_bytes b xs room = lent (shared_slice_loan 𝓛 u8 b xs room ((uint_Copied 𝓛 w8).shares full_share []))

  abbrev pub records : (b : ℕ) (es : List EntryRecord) → Room (length es) 16 → Arg 𝓛
  records b es room = lent (slice_loan 𝓛 entry-record.the_row b es room)

  -- ---- bytes and records in a block

  abbrev pub Bytes : ℕ → List ℕ → SProp 𝓤
  Bytes b xs = sem 𝓛 (cells (mem u8) xs b 0)

  pub holds_bytes : (σ : Memory) (G : SProp 𝓤) → Satisfies 𝓤 H 𝓜 σ G → (xs : List ℕ) → Every Byte xs → ∥ Satisfies 𝓤 H 𝓜 (with_bytes σ xs) (sep 𝓤 (Bytes (length σ) xs) G) ∥₁
  holds_bytes σ G s xs f =
      holds u8 (ty_int w8) (vint w8) refl (uint_Tells w8) 𝓛 𝓜 (uint_Makes 𝓛 w8) (uint_Lawful 𝓛 w8) σ G s xs (are_bytes xs f)

  pub loads_bytes : (ys : List ℕ) (b : ℕ) (σ : Memory) (G : SProp 𝓤) → Satisfies 𝓤 H 𝓜 σ (sep 𝓤 (Bytes b ys) G) → ∥ BytesIn σ b ys ∥₁
  loads_bytes ys b σ G s =
      loads u8 (ty_int w8) (vint w8) refl (uint_Tells w8) 𝓛 𝓜 (uint_Makes 𝓛 w8) (uint_Lawful 𝓛 w8) ys b 0 σ G s

  abbrev pub Records : ℕ → List EntryRecord → SProp 𝓤
  Records b es = sem 𝓛 (cells (mem entry-record.the_row) es b 0)

  pub holds_records : (σ : Memory) (G : SProp 𝓤) → Satisfies 𝓤 H 𝓜 σ G → (es : List EntryRecord) → Every FitRecord es → ∥ Satisfies 𝓤 H 𝓜 (with_records σ es) (sep 𝓤 (Records (length σ) es) G) ∥₁
  holds_records σ G s es f =
      holds entry-record.the_row entry-laws.mir entry-laws.lowered refl (entry-laws.lowers).val_is 𝓛 𝓜 (structs.makes entry-record.the_type entry-laws.the_plain 𝓛) (structs.lawful entry-record.the_type entry-laws.the_laws 𝓛) σ G s es (are_records es f)

  pub loads_records : (es : List EntryRecord) (b : ℕ) (σ : Memory) (G : SProp 𝓤) → Satisfies 𝓤 H 𝓜 σ (sep 𝓤 (Records b es) G) → ∥ RecordsIn σ b es ∥₁
  loads_records es b σ G s =
      loads entry-record.the_row entry-laws.mir entry-laws.lowered refl (entry-laws.lowers).val_is 𝓛 𝓜 (structs.makes entry-record.the_type entry-laws.the_plain 𝓛) (structs.lawful entry-record.the_type entry-laws.the_laws 𝓛) es b 0 σ G s

  -- ---- the same bytes, as an array of n: the image, and any `&mut [u8; n]`

  module _ (n : ℕ) where
    abbrev pub Image : ℕ → List ℕ → SProp 𝓤
    Image b xs = sem 𝓛 ((mem (Array u8 n)).own_at xs b 0)

    image_in : (b : ℕ) (xs : List ℕ) → length xs ≡ n → ent 𝓤 (Bytes b xs) (Image b xs)
    image_in b xs l =
        qed 𝓛 (‵ (cells (mem u8) xs b 0) ∷ []) ∵ use1 𝓛 (‵ (row u8 full_share xs b 0)) (whole_out 𝓛 u8 xs b 0) $ feq_i ! ℕ (length xs) n l $ fjoin ! $ by ! (Array-whole 𝓛 u8 full_share n xs b 0)

    abbrev Sized : List ℕ → SProp 𝓤
    Sized xs = sem 𝓛 (feq ℕ (length xs) n)

    image_out : (b : ℕ) (xs : List ℕ) → ent 𝓤 (Image b xs) (sep 𝓤 (Sized xs) (Bytes b xs))
    image_out b xs =
        qed 𝓛 (‵ (part_at (Array u8 n) full_share xs b 0) ∷ []) ∵ use1 𝓛 (‵ ((arr_parts (shares u8) n).part full_share xs b 0)) (Array-apart 𝓛 u8 full_share tt n xs b 0) $ fsplit ! $ move ! (1 ∷ []) $
        use1 𝓛 (‵ (cells (mem u8) xs b 0)) (whole_in 𝓛 u8 xs b 0) $ move ! (1 ∷ 0 ∷ []) $ done !

    pub holds_image : (σ : Memory) (G : SProp 𝓤) → Satisfies 𝓤 H 𝓜 σ G → (xs : List ℕ) → FitArray n xs → ∥ Satisfies 𝓤 H 𝓜 (with_bytes σ xs) (sep 𝓤 (Image (length σ) xs) G) ∥₁
    holds_image σ G s xs f = ∥∥₁_map (holds_bytes σ G s xs f.0) (λ t. sat_weaken 𝓤 H 𝓜 (with_bytes σ xs) (mono_l 𝓤 G (image_in (length σ) xs f.1)) t)

    pub loads_image : (xs : List ℕ) (b : ℕ) (σ : Memory) (G : SProp 𝓤) → Satisfies 𝓤 H 𝓜 σ (sep 𝓤 (Image b xs) G) → ∥ (BytesIn σ b xs × (length xs ≡ n)) ∥₁
    loads_image xs b σ G s =
        let Si : SProp 𝓤 = Sized xs in
        let By : SProp 𝓤 = Bytes b xs in
        let Im : SProp 𝓤 = Image b xs in
        let m : SProp 𝓤 = 𝓜.mem σ in
        ∥∥₁_elim (loads_bytes xs b σ G (sat_weaken 𝓤 H 𝓜 σ (mono_l 𝓤 G (via 𝓤 (sep 𝓤 Si By) (image_out b xs) (snd∗ 𝓤 Si By))) s)) ∥∥₁_prop (λ l.
        ∥∥₁_map (sat_fact 𝓤 H 𝓜 σ (sep 𝓤 Im G) (length xs ≡ n) (via 𝓤 (sep 𝓤 Im G) (snd∗ 𝓤 m (sep 𝓤 Im G)) (via 𝓤 Im (fst∗ 𝓤 Im G) (via 𝓤 (sep 𝓤 Si By) (image_out b xs) (fst∗ 𝓤 Si By)))) s) (λ e. (l, e)))
