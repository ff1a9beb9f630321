-- A run whose published part goes on, is printed, or is read.
use Rattle.std.proofs.Common.{◌≡◌, ℕ, suc, ◌+◌, ◌-◌, ◌<◌, ◌≤◌, List, length, refl, ap, sym, ◌∙◌, subst, arith, false, Some, Ok, Err, min}
use Rattle.std.specs.Prelude.{slice_set, slice_index_or, Result, OnOk, OnErr}
use Rattle.std.proofs.lemmas.Option.{slice_get_read}
use Rattle.ss_base.specs.declared.types.Size.{Size}
use Rattle.ss_base.specs.declared.types.Span.{Span}
use Rattle.sheet_ops.specs.declared.operation.Effect.{Effect}
use Rattle.sheet_ops.specs.Placed.{placed_size}
use Rattle.sheet_ops.specs.Fits.{EffectFits, HasRoom, IsWellFormed}
use Rattle.sheet_ops.specs.Effects.{StepsTo}
use Rattle.sheet_ops.specs.History.{IsValidHistory}
use Rattle.sheet_ops.specs.Represents.{ClientState, sheet_at}
use Rattle.sheet_ops.specs.Published.{effect_at}
use Rattle.sheet_grid.specs.Values.{placed_in}
use Rattle.full_calc.specs.Values.{value_table}
use Rattle.script_run.specs.declared.published.PublishedSheet.{PublishedSheet}
use Rattle.script_run.specs.declared.room.Room.{Room}
use Rattle.script_run.specs.declared.seat.Seat.{Seat}
use Rattle.script_run.specs.World.{World, seat_at, put_seat, recalculated, reading}
use Rattle.sheet_text.specs.Values.{all_text, range_values_text}
use Rattle.script_run.specs.Transcript.{published_values}
use Rattle.script_run.specs.Rooms.{ClientStands}
use Rattle.script_run.specs.Runs.{SeatStands, IsRun, PublishedIs, PublishedStands, RunStands}
use Rattle.sheet_ops.proofs.Beginnings.{sheet_of_front, formed_at, next_fits, next_room}
use Rattle.script_run.proofs.Fronts.{published_next}
use Rattle.script_run.proofs.Lists.{some_same, there, set_there}
use Rattle.script_run.proofs.Standing.{short, run_with, clients_within}

-- the room and the seats don't depend on how much is published
pub run_published : (w : World) (es : List Effect) (r : Room) → IsRun w es r → (n : ℕ) → IsRun (record w { published = n }) es r
run_published w es r run n = record {
  rows = run.rows;
  cols = run.cols;
  few = run.few;
  effects_of = run.effects_of;
  seats = run.seats;
  room = record { sized = run.room.sized; sites = run.room.sites; server = run.room.server; as_many = run.room.as_many; clients = run.room.clients };
}

module _ (w : World) (es : List Effect) (r : Room) (p : PublishedSheet) (places : List (List ℕ × ℕ)) (all : RunStands w es r p places) where
  pub valid : IsValidHistory w.size r.server.sites w.history
  valid = subst (λ (z : Size). IsValidHistory z r.server.sites w.history) all.run.room.sized all.run.room.server.valid

  pub formed : IsWellFormed (sheet_at w.size w.history p.length)
  formed = formed_at w.size r.server.sites w.history valid p.length all.published.within

  pub few_sites : r.server.sites ≤ 8
  few_sites = omega (arith, all.run.room.sites, all.run.few)

  -- ---- one entry more
  module _ (more : p.length < length w.history) (e : Effect) (here : e ≡ slice_index_or es p.length e) where
    effect_is : e ≡ effect_at w.size w.history p.length
    effect_is =
        let inside : p.length < length es = omega (arith, more, all.run.effects_of.as_many) in
        some_same e (effect_at w.size w.history p.length) (sym (slice_get_read es (length es) p.length e refl inside here) ∙ all.run.effects_of.each p.length more)

    pub may_fit : EffectFits (placed_size (placed_in p.sheet)) e
    may_fit = subst (λ (x : Effect). EffectFits (placed_size (placed_in p.sheet)) x) (sym effect_is) (next_fits w.size r.server.sites w.history valid p.length more (placed_in p.sheet) all.published.is.sheet)

    pub may_grow : HasRoom (placed_size (placed_in p.sheet)) e
    may_grow = subst (λ (x : Effect). HasRoom (placed_size (placed_in p.sheet)) x) (sym effect_is) (next_room w.size r.server.sites w.history valid p.length more (placed_in p.sheet) all.published.is.sheet all.run.rows all.run.cols few_sites)

    pub advanced : (q : PublishedSheet) → q.length ≡ p.length + 1 → StepsTo (placed_in p.sheet) e (placed_in q.sheet) → q.is_current ≡ false → RunStands (record w { published = q.length }) es r q places
    advanced q count steps none = record {
      run = run_published w es r all.run q.length;
      published =
          published_next w.size r.server.sites w.history valid p q all.published more count (subst (λ (x : Effect). StepsTo (placed_in p.sheet) x (placed_in q.sheet)) effect_is steps) none;
      names = all.names;
    }

    pub short_here : p.length < 8000
    short_here = let k = short w es r all.run in omega (arith, more, k)

    -- or nothing changed
    pub advance_run : {T E : Type 0} (x : Result T E) (q : PublishedSheet) → OnOk x (q.length ≡ p.length + 1) → OnOk x (StepsTo (placed_in p.sheet) e (placed_in q.sheet)) → OnOk x (q.is_current ≡ false) → OnErr x (q ≡ p) →
        RunStands (record w { published = q.length }) es r q places
    advance_run (Ok y) q count steps none same = advanced q count steps none
    advance_run (Err y) q count steps none same =
        subst (λ (t : PublishedSheet). RunStands (record w { published = t.length }) es r t places) (sym same) (record { run = run_published w es r all.run p.length; published = all.published; names = all.names })

  -- ---- what is published was evaluated
  pub evaluated_stands : (q : PublishedSheet) → q.length ≡ p.length → PublishedIs (sheet_at w.size w.history p.length) q → PublishedStands w.size w.history q
  evaluated_stands q same is = record {
    within = let k = all.published.within in omega (arith, same, k);
    is = subst (λ n. PublishedIs (sheet_at w.size w.history n) q) (sym same) is;
  }

  pub evaluated_run : (q : PublishedSheet) → q.length ≡ p.length → PublishedIs (sheet_at w.size w.history p.length) q → RunStands (record w { published = q.length }) es r q places
  evaluated_run q same is = record { run = run_published w es r all.run q.length; published = evaluated_stands q same is; names = all.names }

  module _ (at : p.length ≡ w.published) where
    pub values_are : value_table (sheet_at w.size w.history p.length) ≡ published_values w
    unfolding published_values
    values_are = ap value_table (ap (sheet_at w.size w.history) at ∙ sheet_of_front w.size w.history w.published (let k = all.published.within in omega (arith, at, k)))

    pub all_printed : all_text p.length (value_table (sheet_at w.size w.history p.length)) ≡ all_text w.published (published_values w)
    all_printed = λ i. all_text (at i) (values_are i)

    pub range_printed : (line : ℕ) (name : List ℕ) (range : Span) → range_values_text line name range p.length (value_table (sheet_at w.size w.history p.length)) ≡ range_values_text line name range w.published (published_values w)
    range_printed line name range = λ i. range_values_text line name range (at i) (values_are i)

-- one entry more is published
pub one_published : (w : World) (n : ℕ) → w.published < length w.history → n ≡ w.published + 1 → record w { published = n } ≡ recalculated w (Some 1)
one_published w n more is = let e : n ≡ w.published + min 1 (length w.history - w.published) = omega (arith, more, is) in λ i. record w { published = e i }

-- a site has read
pub read_run : (w : World) (es : List Effect) (r : Room) → IsRun w es r → (place : ℕ) → place < length w.seats → (n : ℕ) (s : Seat) → seat_at w place ≡ s → IsRun (put_seat w place (record s { read = n })) es r
read_run w es r run place h n s is =
    let (c, got) = there r.clients place (clients_within w es r run place h) in
    let old : SeatStands w.history (suc place) s = subst (λ (t : Seat). SeatStands w.history (suc place) t) is (run.seats place h) in
    let stands : ClientStands w.size w.history (suc place) s c = subst (λ (t : Seat). ClientStands w.size w.history (suc place) t c) is (run.room.clients place c got) in
    subst (λ (cs : List ClientState). IsRun (put_seat w place (record s { read = n })) es (record r { clients = cs })) (set_there r.clients place c got)
    (run_with w es r run place h (record s { read = n }) c
    (record { pushed_in = old.pushed_in; few = old.few; mine = old.mine; own = old.own; taken_in = old.taken_in })
    (record { number = stands.number; sized = stands.sized; taken = stands.taken; represents = stands.represents }))

pub read_world : (w : World) (place n : ℕ) (s : Seat) → seat_at w place ≡ s → n ≡ w.published → record w { published = n; seats = slice_set w.seats place (record s { read = n }) } ≡ reading w place
read_world w place n s is same = λ i. record w { published = same i; seats = slice_set w.seats place (record (sym is i) { read = same i }) }
