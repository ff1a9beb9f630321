-- One command more behind others: what is declared, and the script of the sites.
use Rattle.std.proofs.Common.{◌≡◌, ℕ, Bool, true, false, List, [], ◌∷◌, ◌++◌, refl, ap, sym, ◌∙◌, append_assoc, Option, Some, None}
use Rattle.std.proofs.lemmas.List.{append-nil}
use Rattle.ss_base.specs.declared.types.Size.{Size}
use Rattle.script_read.specs.declared.command.Command.{Command}
use Rattle.script_read.specs.declared.command.Command.TheVariants as command
use Rattle.script_read.specs.Script.{Declared, declared_with}
use Rattle.live_script.specs.declared.script.Action.{Action}
use Rattle.live_script.specs.Scripts.{action_of, line_before, site_lines, site_named, name_before, names_in, size_given, size_before, size_in}
use Rattle.live_script.specs.SoFar.{declared_from}

abbrev pub Commands : Type 0
Commands = List (ℕ × Command)

-- ---- what is declared

pub declared_from-append : (d : Declared) (cs : Commands) (c : ℕ × Command) → declared_from d (cs ++ c ∷ []) ≡ declared_with (declared_from d cs) c.1
declared_from-append d [] c = refl
declared_from-append d (e ∷ es) c = declared_from-append (declared_with d e.1) es c

sheet_kept : (d : Declared) (c : Command) → d.sheet ≡ true → (declared_with d c).sheet ≡ true
sheet_kept d command.Note e = e
sheet_kept d (command.Sheet size) e = refl
sheet_kept d (command.Site name) e = e
sheet_kept d (command.Edit name what) e = e
sheet_kept d (command.Push name count) e = e
sheet_kept d (command.Pull name count) e = e
sheet_kept d command.PushAll e = e
sheet_kept d command.PullAll e = e
sheet_kept d (command.Sync name) e = e
sheet_kept d (command.Recalc count) e = e
sheet_kept d (command.Read name range) e = e
sheet_kept d command.Values e = e
sheet_kept d command.History e = e
sheet_kept d command.Wire e = e
sheet_kept d (command.Show name) e = e
sheet_kept d command.ShowServer e = e
sheet_kept d command.End e = e

closed_kept : (d : Declared) (c : Command) → d.closed ≡ true → (declared_with d c).closed ≡ true
closed_kept d command.Note e = e
closed_kept d (command.Sheet size) e = e
closed_kept d (command.Site name) e = e
closed_kept d (command.Edit name what) e = refl
closed_kept d (command.Push name count) e = refl
closed_kept d (command.Pull name count) e = refl
closed_kept d command.PushAll e = refl
closed_kept d command.PullAll e = refl
closed_kept d (command.Sync name) e = refl
closed_kept d (command.Recalc count) e = refl
closed_kept d (command.Read name range) e = refl
closed_kept d command.Values e = refl
closed_kept d command.History e = refl
closed_kept d command.Wire e = refl
closed_kept d (command.Show name) e = refl
closed_kept d command.ShowServer e = refl
closed_kept d command.End e = refl

sheet_stays : (d : Declared) (cs : Commands) → d.sheet ≡ true → (declared_from d cs).sheet ≡ true
sheet_stays d [] e = e
sheet_stays d (c ∷ cs) e = sheet_stays (declared_with d c.1) cs (sheet_kept d c.1 e)

closed_stays : (d : Declared) (cs : Commands) → d.closed ≡ true → (declared_from d cs).closed ≡ true
closed_stays d [] e = e
closed_stays d (c ∷ cs) e = closed_stays (declared_with d c.1) cs (closed_kept d c.1 e)

-- a command gives a size where it opens the sheet, and has a site do something where it closes the declarations
gives_none : (d : Declared) (c : Command) → (declared_with d c).sheet ≡ false → size_given c ≡ None
gives_none d command.Note e = refl
gives_none d (command.Sheet size) e = absurd (cc)
gives_none d (command.Site name) e = refl
gives_none d (command.Edit name what) e = refl
gives_none d (command.Push name count) e = refl
gives_none d (command.Pull name count) e = refl
gives_none d command.PushAll e = refl
gives_none d command.PullAll e = refl
gives_none d (command.Sync name) e = refl
gives_none d (command.Recalc count) e = refl
gives_none d (command.Read name range) e = refl
gives_none d command.Values e = refl
gives_none d command.History e = refl
gives_none d command.Wire e = refl
gives_none d (command.Show name) e = refl
gives_none d command.ShowServer e = refl
gives_none d command.End e = refl

has_none : (site : List ℕ) (d : Declared) (c : Command) → (declared_with d c).closed ≡ false → action_of site c ≡ None
has_none site d command.Note e = refl
has_none site d (command.Sheet size) e = refl
has_none site d (command.Site name) e = refl
has_none site d (command.Edit name what) e = absurd (cc)
has_none site d (command.Push name count) e = absurd (cc)
has_none site d (command.Pull name count) e = absurd (cc)
has_none site d command.PushAll e = absurd (cc)
has_none site d command.PullAll e = absurd (cc)
has_none site d (command.Sync name) e = absurd (cc)
has_none site d (command.Recalc count) e = refl
has_none site d (command.Read name range) e = absurd (cc)
has_none site d command.Values e = refl
has_none site d command.History e = refl
has_none site d command.Wire e = refl
has_none site d (command.Show name) e = refl
has_none site d command.ShowServer e = refl
has_none site d command.End e = refl

still_open : (d : Declared) (cs : Commands) → (declared_from d cs).sheet ≡ false → d.sheet ≡ false
still_open d cs e = by_test d.sheet refl
  where
    by_test : (b : Bool) → d.sheet ≡ b → b ≡ false
    by_test true h = sym (sheet_stays d cs h) ∙ e
    by_test false h = refl

not_closed : (d : Declared) (cs : Commands) → (declared_from d cs).closed ≡ false → d.closed ≡ false
not_closed d cs e = by_test d.closed refl
  where
    by_test : (b : Bool) → d.closed ≡ b → b ≡ false
    by_test true h = sym (closed_stays d cs h) ∙ e
    by_test false h = refl

-- ---- names, sizes and lines

pub names_in-append : (cs ds : Commands) → names_in (cs ++ ds) ≡ names_in cs ++ names_in ds
names_in-append [] ds = refl
names_in-append (c ∷ cs) ds = ap (name_before (site_named c.1)) (names_in-append cs ds) ∙ before (site_named c.1)
  where
    before : (o : Option (List ℕ)) → name_before o (names_in cs ++ names_in ds) ≡ name_before o (names_in cs) ++ names_in ds
    before None = refl
    before (Some name) = refl

pub site_lines-append : (site : List ℕ) (cs ds : Commands) → site_lines site (cs ++ ds) ≡ site_lines site cs ++ site_lines site ds
site_lines-append site [] ds = refl
site_lines-append site (c ∷ cs) ds = ap (line_before c.0 (action_of site c.1)) (site_lines-append site cs ds) ∙ before (action_of site c.1)
  where
    before : (o : Option Action) → line_before c.0 o (site_lines site cs ++ site_lines site ds) ≡ line_before c.0 o (site_lines site cs) ++ site_lines site ds
    before None = refl
    before (Some a) = refl

pub size_in-kept : (cs : Commands) (c : ℕ × Command) → size_given c.1 ≡ None → size_in (cs ++ c ∷ []) ≡ size_in cs
size_in-kept [] c e = ap (λ o. size_before o (record { rows = 0; cols = 0 })) e
size_in-kept (d ∷ ds) c e = ap (size_before (size_given d.1)) (size_in-kept ds c e)

pub size_in-first : (d : Declared) (cs : Commands) (n : ℕ) (size : Size) → (declared_from d cs).sheet ≡ false → size_in (cs ++ (n, command.Sheet size) ∷ []) ≡ size
size_in-first d [] n size e = refl
size_in-first d (c ∷ cs) n size e =
    ap (λ o. size_before o (size_in (cs ++ (n, command.Sheet size) ∷ []))) (gives_none d c.1 (still_open (declared_with d c.1) cs e))
    ∙ size_in-first (declared_with d c.1) cs n size e

-- no site has a line as long as sites may be declared
pub site_lines-open : (site : List ℕ) (d : Declared) (cs : Commands) → (declared_from d cs).closed ≡ false → site_lines site cs ≡ []
site_lines-open site d [] e = refl
site_lines-open site d (c ∷ cs) e =
    ap (λ o. line_before c.0 o (site_lines site cs)) (has_none site d c.1 (not_closed (declared_with d c.1) cs e))
    ∙ site_lines-open site (declared_with d c.1) cs e

-- the sites that are declared
sites_with : (d : Declared) (c : Command) → (declared_with d c).sites ≡ d.sites ++ name_before (site_named c) []
sites_with d command.Note = sym (append-nil d.sites)
sites_with d (command.Sheet size) = sym (append-nil d.sites)
sites_with d (command.Site name) = refl
sites_with d (command.Edit name what) = sym (append-nil d.sites)
sites_with d (command.Push name count) = sym (append-nil d.sites)
sites_with d (command.Pull name count) = sym (append-nil d.sites)
sites_with d command.PushAll = sym (append-nil d.sites)
sites_with d command.PullAll = sym (append-nil d.sites)
sites_with d (command.Sync name) = sym (append-nil d.sites)
sites_with d (command.Recalc count) = sym (append-nil d.sites)
sites_with d (command.Read name range) = sym (append-nil d.sites)
sites_with d command.Values = sym (append-nil d.sites)
sites_with d command.History = sym (append-nil d.sites)
sites_with d command.Wire = sym (append-nil d.sites)
sites_with d (command.Show name) = sym (append-nil d.sites)
sites_with d command.ShowServer = sym (append-nil d.sites)
sites_with d command.End = sym (append-nil d.sites)

pub declared_sites : (d : Declared) (cs : Commands) → (declared_from d cs).sites ≡ d.sites ++ names_in cs
declared_sites d [] = sym (append-nil d.sites)
declared_sites d (c ∷ cs) =
    declared_sites (declared_with d c.1) cs
    ∙ (ap (λ (xs : List (List ℕ)). xs ++ names_in cs) (sites_with d c.1)
    ∙ (append_assoc d.sites (name_before (site_named c.1) []) (names_in cs) ∙ ap (λ (xs : List (List ℕ)). d.sites ++ xs) (joined (site_named c.1))))
  where
    joined : (o : Option (List ℕ)) → name_before o [] ++ names_in cs ≡ name_before o (names_in cs)
    joined None = refl
    joined (Some name) = refl
