-- The loop over the telegrams on an image: what is left from here is the whole. Its turns, and its ways out.
use mathlib.Core.Path.{◌≡◌, refl, sym, ap, ◌∙◌}
use Rattle.std.specs.Prelude.{Result, Ok, Err}
use mathlib.Core.List.{List, [], ◌++◌}
use Prim.Native.Nat.{ℕ, ◌+◌, ◌*◌, ◌/◌, ◌≤◌, ◌<◌}
use native.Mathlib.Omega.{arith}
use lib.ListN.{length, drop, length-append}
use lib.Seq.{drop-drop, length-take-le}
use Rattle.laws.proofs.Lists.{if_all}
use Rattle.frame.specs.Frame.{Telegram, ack, short, long, Why, complete, incomplete, invalid, parse, encode}
use Rattle.frame.specs.declared.Frame.{Frame}
use Rattle.frame.specs.declared.Why as declared-why
use Rattle.frame.specs.declared.ParseOutcome.{ParseOutcome}
use Rattle.frame.specs.declared.ParseOutcome.TheVariants.{Complete, Incomplete, Invalid}
use Rattle.frame.specs.View.{telegram_of, why_of, parsed_of}
use Rattle.frame.proofs.RoundTrip.{parse_back}
use Rattle.time_clock.specs.declared.Clock.{Clock}
use Rattle.segment.specs.Plain.{Plain, with_input}
use Rattle.segment_replies.specs.Replies.{joined}
use Rattle.segment_image.specs.Image.{decode_image}
use Rattle.segment_places.specs.declared.queue.QueueFull.{QueueFull}
use Rattle.segment_places.specs.ProgramBecomes.{Becomes}
use Rattle.segment_places.proofs.Becoming.{becomes_same, becomes_as, becomes_then}
use Rattle.segment_telegram.specs.Handled.{replies, to_broadcast_value, heard_by, handled}
use Rattle.segment_send.specs.Steps.{handled_all}
use Rattle.segment_telegram.specs.ProgramComes.{may_reply, Comes}
use Rattle.segment_send.specs.ProgramSend.{ComesOrStays}
use Rattle.segment_send.proofs.SendLaws.{used_some, steps_keeps, handled_all_complete, handled_all_incomplete, handled_all_invalid}

-- ---- the queue only grows

handled_grows : (t : Telegram) (k : Clock) (rest : List ℕ) (s : Plain) → length s.queue ≤ length (handled t k rest s).queue
unfolding handled
handled_grows t k rest s =
    if_all (λ q. length s.queue ≤ length q) (to_broadcast_value t) s.queue (s.queue ++ joined (replies (heard_by t k s))) (omega arith)
    (omega (arith, length-append s.queue (joined (replies (heard_by t k s)))))

handled_all_grows : (k : Clock) (s : Plain) → length s.queue ≤ length (handled_all k s).queue
unfolding handled_all
handled_all_grows k s =
    steps_keeps (λ u. length s.queue ≤ length u.queue) (λ t k rest u h. let g = handled_grows t k rest u in omega arith) (λ u h. h) (length s.input) k s (omega arith)

-- ---- the loop

-- the bytes from pos on are left; before them old became new
pub record Left (k : Clock) (bytes old : List ℕ) (pos : ℕ) (new : List ℕ) : Type 0 where
  pub is : handled_all k (with_input (drop pos bytes) (decode_image new)) ≡ handled_all k (with_input bytes (decode_image old))
  pub becomes : Becomes old (decode_image new) new
  pub grown : length (decode_image new).queue ≤ length (decode_image old).queue + 96 * (pos / 5)

-- what all the bytes come to
abbrev all : Clock → List ℕ → List ℕ → Plain
all k bytes old = handled_all k (with_input bytes (decode_image old))

module _ {k : Clock} {bytes old : List ℕ} where
  pub left_none : Left k bytes old 0 old
  left_none = record { is = refl; becomes = becomes_same; grown = omega arith }

  module _ {pos : ℕ} {mid : List ℕ} (l : Left k bytes old pos mid) where
    abbrev now : Plain
    now = decode_image mid

    module _ (t : Telegram) (used : ℕ) (e : parse (drop pos bytes) ≡ complete t used) (some : 5 * may_reply t ≤ used) where
      abbrev next : Plain
      next = handled t k now.input now

      taken : handled_all k (with_input (drop (pos + used) bytes) next) ≡ all k bytes old
      unfolding handled heard_by
      taken =
          ap (λ x. handled_all k (with_input x next)) (sym (drop-drop used pos bytes))
          ∙ sym (handled_all_complete k (with_input (drop pos bytes) now) t used e)
          ∙ l.is

      pub left_more : {new : List ℕ} → Comes next (may_reply t) mid (Ok tt) new → Left k bytes old (pos + used) new
      left_more {new} c =
          let b = c.done in
          record {
            is = ap (λ x. handled_all k (with_input (drop (pos + used) bytes) x)) b.means ∙ taken;
            becomes = becomes_as (sym b.means) (becomes_then l.becomes b);
            grown = omega (arith, c.grows, ap (λ p. length p.queue) b.means, l.grown);
          }

      -- the queue is too long already
      pub left_full : {why : QueueFull} {new : List ℕ} → Comes next (may_reply t) mid (Err why) new → pos + used ≤ length bytes → Comes (all k bytes old) (length bytes / 5) old (Err why) new
      left_full c h =
          let more = handled_all_grows k (with_input (drop (pos + used) bytes) next) in
          record {
            done = tt;
            full = omega (arith, c.full, more, ap (λ p. length p.queue) taken);
            bound = omega (arith, c.bound, l.grown);
            grows = tt;
          }

    ends : {p : Plain} {new : List ℕ} → pos ≤ length bytes → all k bytes old ≡ p → length p.queue ≡ length now.queue → Becomes mid p new → Comes (all k bytes old) (length bytes / 5) old (Ok tt) new
    ends h e q b =
        record {
          done = becomes_as (sym e) (becomes_then l.becomes b);
          full = tt;
          bound = tt;
          grows = omega (arith, ap (λ p. length p.queue) e, q, l.grown);
        }

    -- what is left waits
    pub left_waits : {new : List ℕ} {m : ℕ} → pos ≤ length bytes → parse (drop pos bytes) ≡ incomplete m → Becomes mid (with_input (drop pos bytes) now) new → Comes (all k bytes old) (length bytes / 5) old (Ok tt) new
    left_waits h e b = ends h (sym l.is ∙ handled_all_incomplete k (with_input (drop pos bytes) now) e) refl b

    -- all remaining input is discarded
    pub left_drops : {new : List ℕ} (why : Why) → pos ≤ length bytes → parse (drop pos bytes) ≡ invalid why → Becomes mid (with_input [] now) new → Comes (all k bytes old) (length bytes / 5) old (Ok tt) new
    left_drops why h e b = ends h (sym l.is ∙ handled_all_invalid k (with_input (drop pos bytes) now) why e) refl b

-- ---- or every byte stays

module _ {s : Plain} {n : ℕ} {old new : List ℕ} where
  -- there is room
  pub comes_surely : (r : Result (Unit {0}) QueueFull) → Comes s n old r new → length (decode_image old).queue + 96 * n ≤ 4096 → ComesOrStays s old r new
  comes_surely (Ok done) c h = record { done = c.done; full = tt; stays = tt }
  comes_surely (Err why) c h = let b = c.bound in absurd (omega arith)

-- ---- what parsing said of the bytes from pos on

module _ {rest bs : List ℕ} {o : ParseOutcome} (r : rest ≡ bs) (e : parsed_of o ≡ parse rest) where
  pub parsed_complete : {frame : Frame} {used : ℕ} → o ≡ Complete frame used → parse bs ≡ complete (telegram_of frame) used
  parsed_complete is = ap parse (sym r) ∙ sym e ∙ ap parsed_of is

  pub parsed_incomplete : {m : ℕ} → o ≡ Incomplete m → parse bs ≡ incomplete m
  parsed_incomplete is = ap parse (sym r) ∙ sym e ∙ ap parsed_of is

  pub parsed_invalid : {why : declared-why.Why} → o ≡ Invalid why → parse bs ≡ invalid (why_of why)
  parsed_invalid is = ap parse (sym r) ∙ sym e ∙ ap parsed_of is

-- a telegram uses some of the bytes, and no more than there are
pub used_within : (bs : List ℕ) (t : Telegram) (n : ℕ) → parse bs ≡ complete t n → (0 < n) × (n ≤ length bs)
used_within bs t n e = (used_some bs t n e, (parse_back bs t n e).1)

-- one that anybody replies to has five bytes or more
pub used_five : (bs : List ℕ) (t : Telegram) (n : ℕ) → parse bs ≡ complete t n → 5 * may_reply t ≤ n
unfolding encode
used_five bs t n e =
    let p = parse_back bs t n e in
    let w : length (encode t) ≡ n = ap length (sym p.0) ∙ length-take-le n bs p.1 in
    omega (arith, five t)
  where
    five : (t : Telegram) → 5 * may_reply t ≤ length (encode t)
    five ack = omega arith
    five (short c a) = omega arith
    five (long c a ci d) = omega arith
