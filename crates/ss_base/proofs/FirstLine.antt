-- the first of the lines that are left, by where a search stopped
use Rattle.std.proofs.Common.{◌≡◌, ◌≢◌, ℕ, suc, ◌+◌, ◌<◌, ◌≤◌, true, false, cond, List, [], ◌∷◌, ◌++◌, length, refl, ap, sym, ◌∙◌, arith, append_assoc, append-nil, subst, Option, Some, None, Ok, Err}
use Rattle.std.specs.Prelude.{nat_eq, if◌then◌else◌}
use Rattle.std.proofs.lemmas.Bool.Decides.{nat_tests}
use Rattle.ss_base.specs.declared.lines.Turn.TheVariants as turn
use Rattle.ss_base.specs.declared.lines.LineErr.{LineErr}
use Rattle.ss_base.specs.declared.lines.LineErr.TheVariants as fault
use Rattle.ss_base.specs.Lines.{Line, FeedState, longer, lines_from, lines_left, is_long, GivesLine}
use Rattle.ss_base.specs.Search.{Refills, IsEndOf, NoFeed, StopsAt}
use Rattle.ss_base.specs.Feed.{state_of}
use Rattle.ss_base.specs.declared.feed.LineFeed.TheInside.{Inside}

-- a line feed stands behind the front
pub lines_from-feed : (used : ℕ) (front rest : List ℕ) → NoFeed front
    → lines_from used (front ++ 10 ∷ rest) ≡ record { bytes = front; ends = used + length front + 1 } ∷ lines_from (used + length front + 1) rest
lines_from-feed used [] rest h =
    let e : used + 1 ≡ used + 0 + 1 = omega arith in λ i. record { bytes = []; ends = e i } ∷ lines_from (e i) rest
lines_from-feed used (b ∷ bs) rest h =
    let e : used + 1 + length bs + 1 ≡ used + suc (length bs) + 1 = omega arith in
    ap (λ t. cond t (record { bytes = []; ends = used + 1 } ∷ lines_from (used + 1) (bs ++ 10 ∷ rest)) (longer b (used + 1) (lines_from (used + 1) (bs ++ 10 ∷ rest)))) h.0
    ∙ (ap (longer b (used + 1)) (lines_from-feed (used + 1) bs rest h.1)
    ∙ (λ i. record { bytes = b ∷ bs; ends = e i } ∷ lines_from (e i) rest))

-- nothing stands behind the front
pub lines_from-end : (used : ℕ) (front : List ℕ) → NoFeed front → front ≢ []
    → lines_from used front ≡ record { bytes = front; ends = used + length front } ∷ []
lines_from-end used [] h some = absurd (some refl)
lines_from-end used (b ∷ []) h some =
    ap (λ t. cond t (record { bytes = []; ends = used + 1 } ∷ []) (longer b (used + 1) [])) h.0
lines_from-end used (b ∷ c ∷ cs) h some =
    let e : used + 1 + suc (length cs) ≡ used + suc (suc (length cs)) = omega arith in
    ap (λ t. cond t (record { bytes = []; ends = used + 1 } ∷ lines_from (used + 1) (c ∷ cs)) (longer b (used + 1) (lines_from (used + 1) (c ∷ cs)))) h.0
    ∙ (ap (longer b (used + 1)) (lines_from-end (used + 1) (c ∷ cs) h.1 (λ e. absurd (cc)))
    ∙ (λ i. record { bytes = b ∷ c ∷ cs; ends = e i } ∷ []))

-- the first line is longer than n
StartsLonger : ℕ → List Line → Type 0
StartsLonger n ls = (l : Line) × (rest : List Line) × (ls ≡ l ∷ rest) × (n < length l.bytes)

longer-starts : (b next : ℕ) (ls : List Line) → StartsLonger 0 (longer b next ls)
unfolding StartsLonger
longer-starts b next [] = (record { bytes = b ∷ []; ends = next }, [], refl, omega arith)
longer-starts b next (l ∷ ls) = (record { bytes = b ∷ l.bytes; ends = l.ends }, ls, refl, omega arith)

longer-longer : (b next n : ℕ) (ls : List Line) → StartsLonger n ls → StartsLonger (suc n) (longer b next ls)
unfolding StartsLonger
longer-longer b next n ls (l, rest, e, h) = (record { bytes = b ∷ l.bytes; ends = l.ends }, rest, ap (longer b next) e, omega arith)

-- a byte that is no line feed stands behind the front
lines_from-more : (used : ℕ) (front : List ℕ) (b : ℕ) (rest : List ℕ) → NoFeed front → nat_eq b 10 ≡ false → StartsLonger (length front) (lines_from used (front ++ b ∷ rest))
lines_from-more used [] b rest h e =
    subst (StartsLonger 0) (ap (λ t. cond t (record { bytes = []; ends = used + 1 } ∷ lines_from (used + 1) rest) (longer b (used + 1) (lines_from (used + 1) rest))) (sym e)) (longer-starts b (used + 1) (lines_from (used + 1) rest))
lines_from-more used (x ∷ xs) b rest h e =
    let ls = lines_from (used + 1) (xs ++ b ∷ rest) in
    subst (StartsLonger (suc (length xs))) (ap (λ t. cond t (record { bytes = []; ends = used + 1 } ∷ ls) (longer x (used + 1) ls)) (sym h.0)) (longer-longer x (used + 1) (length xs) ls (lines_from-more (used + 1) xs b rest h.1 e))

short_line : (bytes : List ℕ) (ends : ℕ) → length bytes ≤ 4096 → ends ≤ 1048576 → is_long (record { bytes = bytes; ends = ends }) ≡ false
short_line bytes ends h k = grind (arith, nat_tests)

late_line : (bytes : List ℕ) (ends : ℕ) → 1048576 < ends → is_long (record { bytes = bytes; ends = ends }) ≡ true
late_line bytes ends h = grind (arith, nat_tests)

long_line : (l : Line) → 4096 < length l.bytes → is_long l ≡ true
long_line l h = grind (arith, nat_tests)

-- the bytes before are the line and what is at hand
whole : (x line ahead b c : List ℕ) → x ++ b ≡ (line ++ ahead) ++ c → x ++ b ≡ line ++ (ahead ++ c)
whole x line ahead b c told = told ∙ append_assoc line ahead c

-- what a reading gives, from the state `f` before to the line, the bytes ahead and the bytes used after it
module _ (f : FeedState) (line ahead ahead' : List ℕ) (used' : ℕ) (plain : NoFeed line) where
  pub gives_fed : (r s : Option (List ℕ)) (rest : List ℕ) → Refills r s f.ahead (line ++ ahead) → ahead ≡ 10 ∷ rest
      → ahead' ≡ rest → used' ≡ f.used + length line + 1 → length line ≤ 4096 → used' ≤ 1048576
      → GivesLine (lines_left f r) (lines_left (record { line = line; ahead = ahead'; used = used' }) s) line (Ok turn.Line)
  gives_fed None None rest told feed at up short within = tt
  gives_fed None (Some c) rest told feed at up short within = absurd told
  gives_fed (Some b) None rest told feed at up short within = absurd told
  gives_fed (Some b) (Some c) rest told feed at up short within = (
    record { bytes = line; ends = f.used + length line + 1 },
    ap (lines_from f.used) (whole f.ahead line ahead b c told ∙ ap (λ (z : List ℕ). line ++ (z ++ c)) feed)
        ∙ (lines_from-feed f.used line (rest ++ c) plain
        ∙ (λ i. record { bytes = line; ends = f.used + length line + 1 } ∷ lines_from (sym up i) (sym at i ++ c))),
    refl,
    short_line line (f.used + length line + 1) short (omega arith),
  )

  pub gives_last : (r s : Option (List ℕ)) → Refills r s f.ahead (line ++ ahead) → ahead ≡ [] → IsEndOf s → line ≢ []
      → ahead' ≡ ahead → used' ≡ f.used + length line → length line ≤ 4096 → used' ≤ 1048576
      → GivesLine (lines_left f r) (lines_left (record { line = line; ahead = ahead'; used = used' }) s) line (Ok turn.Line)
  gives_last None None told none end some at up short within = tt
  gives_last None (Some c) told none end some at up short within = absurd told
  gives_last (Some b) None told none end some at up short within = absurd told
  gives_last (Some b) (Some c) told none end some at up short within = (
    record { bytes = line; ends = f.used + length line },
    ap (lines_from f.used) (whole f.ahead line ahead b c told ∙ ((λ i. line ++ (none i ++ end i)) ∙ append-nil line))
        ∙ (lines_from-end f.used line plain some
        ∙ (λ i. record { bytes = line; ends = f.used + length line } ∷ lines_from used' (sym (at ∙ none) i ++ sym end i))),
    refl,
    short_line line (f.used + length line) short (omega arith),
  )

  -- where nothing was given, the lines are those before
  same_lines : (b c : List ℕ) → f.ahead ++ b ≡ (line ++ ahead) ++ c → ahead' ≡ line ++ ahead → used' ≡ f.used
      → lines_from used' (ahead' ++ c) ≡ lines_from f.used (f.ahead ++ b)
  same_lines b c told at up = (λ i. lines_from (up i) (at i ++ c)) ∙ ap (lines_from f.used) (sym told)

  pub gives_late_feed : (r s : Option (List ℕ)) (rest : List ℕ) → Refills r s f.ahead (line ++ ahead) → ahead ≡ 10 ∷ rest
      → ahead' ≡ line ++ ahead → used' ≡ f.used → 1048576 < f.used + length line + 1
      → GivesLine (lines_left f r) (lines_left (record { line = line; ahead = ahead'; used = used' }) s) line (Err fault.TooLong)
  gives_late_feed None None rest told feed at up late = tt
  gives_late_feed None (Some c) rest told feed at up late = absurd told
  gives_late_feed (Some b) None rest told feed at up late = absurd told
  gives_late_feed (Some b) (Some c) rest told feed at up late = (
    record { bytes = line; ends = f.used + length line + 1 },
    lines_from (f.used + length line + 1) (rest ++ c),
    ap (lines_from f.used) (whole f.ahead line ahead b c told ∙ ap (λ (z : List ℕ). line ++ (z ++ c)) feed) ∙ lines_from-feed f.used line (rest ++ c) plain,
    late_line line (f.used + length line + 1) late,
    same_lines b c told at up,
  )

  pub gives_late_last : (r s : Option (List ℕ)) → Refills r s f.ahead (line ++ ahead) → ahead ≡ [] → IsEndOf s → line ≢ []
      → ahead' ≡ line ++ ahead → used' ≡ f.used → 1048576 < f.used + length line
      → GivesLine (lines_left f r) (lines_left (record { line = line; ahead = ahead'; used = used' }) s) line (Err fault.TooLong)
  gives_late_last None None told none end some at up late = tt
  gives_late_last None (Some c) told none end some at up late = absurd told
  gives_late_last (Some b) None told none end some at up late = absurd told
  gives_late_last (Some b) (Some c) told none end some at up late = (
    record { bytes = line; ends = f.used + length line },
    [],
    ap (lines_from f.used) (whole f.ahead line ahead b c told ∙ ((λ i. line ++ (none i ++ end i)) ∙ append-nil line)) ∙ lines_from-end f.used line plain some,
    late_line line (f.used + length line) late,
    same_lines b c told at up,
  )

  pub gives_refusal : (r s : Option (List ℕ)) (e : LineErr) → Refills r s f.ahead (line ++ ahead) → StopsAt line ahead s (Err e)
      → ahead' ≡ line ++ ahead → used' ≡ f.used
      → GivesLine (lines_left f r) (lines_left (record { line = line; ahead = ahead'; used = used' }) s) line (Err e)
  unfolding StartsLonger
  gives_refusal None None e told stop at up = tt
  gives_refusal None (Some c) e told stop at up = absurd told
  gives_refusal (Some b) None e told stop at up = absurd told
  gives_refusal (Some b) (Some c) fault.ReadFault told stop at up = same_lines b c told at up
  gives_refusal (Some b) (Some c) fault.TooLong told (full, (x, rest, next, other)) at up =
      let (l, ls, first, long) = lines_from-more f.used line x (rest ++ c) plain other in
      (l, ls, ap (lines_from f.used) (whole f.ahead line ahead b c told ∙ ap (λ (z : List ℕ). line ++ (z ++ c)) next) ∙ first, long_line l (omega arith), same_lines b c told at up)

-- a feed's bytes before are the front that it kept and what was at hand
pub told_from : (f : FeedState) (inside : Inside) (r s : Option (List ℕ)) (front line ahead : List ℕ) → state_of inside ≡ f
    → front ≡ (if inside.unfinished then inside.line.items else []) → Refills r s (front ++ inside.ahead) (line ++ ahead)
    → Refills r s f.ahead (line ++ ahead)
told_from f inside r s front line ahead is kept told =
    subst (λ (z : List ℕ). Refills r s z (line ++ ahead)) (ap (λ (z : List ℕ). z ++ inside.ahead) kept ∙ ap (λ (f : FeedState). f.ahead) is) told

pub not_empty : (xs : List ℕ) (n : ℕ) → n ≡ length xs → nat_eq n 0 ≡ false → xs ≢ []
not_empty xs n e h = λ k. absurd (let z : n ≡ 0 = e ∙ ap length k in grind (arith, nat_tests))
