-- What is published stands at a beginning of the history.
use Rattle.std.proofs.Common.{◌≡◌, ℕ, suc, ◌+◌, ◌<◌, true, false, List, [], ◌++◌, length, ap, sym, ◌∙◌, subst, arith}
use Rattle.std.proofs.lemmas.List.{length-append}
use Rattle.ss_base.specs.declared.types.Size.{Size}
use Rattle.sheet_ops.specs.declared.operation.Entry.{Entry}
use Rattle.sheet_ops.specs.Identity.{IdSheet, opened}
use Rattle.sheet_ops.specs.Placed.{placed}
use Rattle.sheet_ops.specs.Effects.{StepsTo}
use Rattle.sheet_ops.specs.History.{IsValidHistory}
use Rattle.sheet_ops.specs.Represents.{sheet_at}
use Rattle.sheet_ops.specs.Published.{effect_at}
use Rattle.sheet_ops.proofs.Beginnings.{sheet_before, next_sheet}
use Rattle.sheet_grid.specs.Values.{placed_in}
use Rattle.script_run.specs.declared.published.PublishedSheet.{PublishedSheet}
use Rattle.script_run.specs.Runs.{PublishedIs, PublishedStands}

-- one entry more is published
pub published_next : (size : Size) (sites : ℕ) (H : List Entry) → IsValidHistory size sites H → (p p' : PublishedSheet) → PublishedStands size H p → p.length < length H → p'.length ≡ p.length + 1 → StepsTo (placed_in p.sheet) (effect_at size H p.length) (placed_in p'.sheet) → p'.is_current ≡ false → PublishedStands size H p'
published_next size sites H valid p p' old more count steps none = record {
  within = omega (arith, more, count);
  is = record {
    sheet = let k : p'.length ≡ suc p.length = omega (arith, count) in ap (λ n. placed (sheet_at size H n)) k ∙ next_sheet size sites H valid p.length more (placed_in p.sheet) old.is.sheet (placed_in p'.sheet) steps;
    values = λ current. absurd (let clash : true ≡ false = sym current ∙ none in cc);
  };
}

-- what is published stays so where the history goes on
pub published_later : (size : Size) (H more : List Entry) (p : PublishedSheet) → PublishedStands size H p → PublishedStands size (H ++ more) p
published_later size H more p old = record {
  within = omega (arith, old.within, length-append H more);
  is = subst (λ (X : IdSheet). PublishedIs X p) (sym (sheet_before size H more p.length old.within)) old.is;
}

-- before there is an entry
pub published_first : (size : Size) (p : PublishedSheet) → p.length ≡ 0 → PublishedIs (opened size) p → PublishedStands size [] p
published_first size p none is = record {
  within = omega (arith, none);
  is = subst (λ n. PublishedIs (sheet_at size [] n) p) (sym none) is;
}
