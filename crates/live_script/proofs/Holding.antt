-- The state behind commands, with one command more.
use Rattle.std.proofs.Common.{◌≡◌, ℕ, ◌+◌, ◌≤◌, Bool, true, false, cond, List, [], ◌∷◌, ◌++◌, length, map, refl, ap, sym, ◌∙◌, subst, arith, Option, Some, None, is_some, inl, inr}
use Rattle.std.specs.Prelude.{nat_lt, ◌||◌, ◌⊎◌, not}
use Rattle.std.specs.List.{All, list_any}
use Rattle.std.specs.Str.{bytes_eq}
use Rattle.std.proofs.lemmas.Bool.Decides.{nat_tests}
use Rattle.std.proofs.lemmas.List.{map-append, append-nil, length-append, length-map}
use Rattle.std.proofs.lemmas.List.Elements.{All-nil, All-cons, All-head, All-tail, All-push}
use Rattle.ss_base.specs.declared.types.Size.{Size}
use Rattle.script_read.specs.declared.command.Command.{Command}
use Rattle.script_read.specs.declared.command.Command.TheVariants as command
use Rattle.script_read.specs.declared.script.ScriptKind.{ScriptKind}
use Rattle.script_read.specs.declared.script.ScriptKind.TheVariants as kind
use Rattle.script_read.specs.Commands.{CommandWithin}
use Rattle.script_read.specs.Script.{Declared, nothing_declared, fault_of, declared_with}
use Rattle.live_script.specs.declared.script.Action.{Action}
use Rattle.live_script.specs.declared.script.Action.TheVariants as action
use Rattle.live_script.specs.declared.script.SiteLine.{SiteLine}
use Rattle.live_script.specs.declared.script.SiteScript.{SiteScript}
use Rattle.live_script.specs.declared.script.LiveScript.{LiveScript}
use Rattle.live_script.specs.Scripts.{only_for, action_of, line_before, site_lines, site_named, name_before, names_in, size_given, size_in}
use Rattle.live_script.specs.SoFar.{SoFar, so_far, nothing_so_far, declared_from, NamesDiffer, IsSoFar, live_fault, with_line, AddsSite, CommandAddressed, ActionWithin, LinesWithin, IsOpened}
use Rattle.live_script.proofs.Appending.{Commands, declared_from-append, names_in-append, site_lines-append, size_in-kept, size_in-first, site_lines-open, declared_sites}
use Rattle.live_script.proofs.Turns.{free}

abbrev pub name_of : SiteScript → List ℕ
name_of s = s.name

abbrev pub site_with : List ℕ → List SiteLine → SiteScript
site_with name lines = record { name = name; lines = lines }

abbrev pub parts : Size → List SiteScript → LiveScript
parts size sites = record { size = size; sites = sites }

-- the site of a name
abbrev site_in : Commands → List ℕ → SiteScript
site_in cs name = record { name = name; lines = site_lines name cs }

names_of : (cs : Commands) (names : List (List ℕ)) → map name_of (map (site_in cs) names) ≡ names
names_of cs [] = refl
names_of cs (name ∷ names) = ap (λ (ns : List (List ℕ)). name ∷ ns) (names_of cs names)

-- ---- lines that are added

pub names_kept : (n : ℕ) (c : Command) (sites : List SiteScript) → map name_of (map (with_line n c) sites) ≡ map name_of sites
names_kept n c [] = refl
names_kept n c (s ∷ ss) = ap (λ (ns : List (List ℕ)). s.name ∷ ns) (names_kept n c ss)

pub idle : (n : ℕ) (c : Command) → ((site : List ℕ) → action_of site c ≡ None) → (sites : List SiteScript) → map (with_line n c) sites ≡ sites
idle n c none [] = refl
idle n c none (s ∷ ss) = λ i. same i ∷ idle n c none ss i
  where
    same : with_line n c s ≡ s
    same = ap (λ (o : Option Action). site_with s.name (s.lines ++ line_before n o [])) (none s.name) ∙ (λ i. record s { lines = append-nil s.lines i })

lines_on : (cs : Commands) (n : ℕ) (c : Command) (names : List (List ℕ)) → map (with_line n c) (map (site_in cs) names) ≡ map (site_in (cs ++ (n, c) ∷ [])) names
lines_on cs n c [] = refl
lines_on cs n c (name ∷ names) = λ i. site_with name (sym (site_lines-append name cs ((n, c) ∷ [])) i) ∷ lines_on cs n c names i

names_on : (cs : Commands) (n : ℕ) (c : Command) → site_named c ≡ None → names_in (cs ++ (n, c) ∷ []) ≡ names_in cs
names_on cs n c none = names_in-append cs ((n, c) ∷ []) ∙ (ap (λ (o : Option (List ℕ)). names_in cs ++ name_before o []) none ∙ append-nil (names_in cs))

sites_on : (cs : Commands) (n : ℕ) (c : Command) → site_named c ≡ None → map (with_line n c) (map (site_in cs) (names_in cs)) ≡ map (site_in (cs ++ (n, c) ∷ [])) (names_in (cs ++ (n, c) ∷ []))
sites_on cs n c none = lines_on cs n c (names_in cs) ∙ ap (map (site_in (cs ++ (n, c) ∷ []))) (sym (names_on cs n c none))

-- ---- names that stand once

apart-push : (names : List (List ℕ)) (name : List ℕ) → NamesDiffer names → list_any (bytes_eq name) names ≡ false → NamesDiffer (names ++ name ∷ [])
apart-push [] name h e = (All-nil _, tt)
apart-push (x ∷ xs) name h e =
    let (first, others) = neither (bytes_eq name x) (list_any (bytes_eq name) xs) e in
    (All-push (λ (later : List ℕ). bytes_eq later x ≡ false) xs name h.0 first, apart-push xs name h.1 others)
  where
    neither : (a b : Bool) → a || b ≡ false → (a ≡ false) × (b ≡ false)
    neither true b e = absurd (cc)
    neither false b e = (refl, e)

-- ---- the state

pub holds_first : IsSoFar [] nothing_so_far
holds_first = record { declared = refl; script = refl; apart = tt; few = omega arith; within = All-nil _; addressed = All-nil _ }

module _ (cs : Commands) (old : SoFar) (h : IsSoFar cs old) (n : ℕ) where
  declared_on : (new : SoFar) (c : Command) → new.declared ≡ declared_with old.declared c → new.declared ≡ declared_from nothing_declared (cs ++ (n, c) ∷ [])
  declared_on new c e = e ∙ (ap (λ d. declared_with d c) h.declared ∙ sym (declared_from-append nothing_declared cs (n, c)))

  within_on : (c : Command) → CommandWithin 4096 c → All (λ (x : ℕ × Command). CommandWithin 4096 x.1) (cs ++ (n, c) ∷ [])
  within_on c w = All-push (λ (x : ℕ × Command). CommandWithin 4096 x.1) cs (n, c) h.within w

  addressed_on : (c : Command) → CommandAddressed c → All (λ (x : ℕ × Command). CommandAddressed x.1) (cs ++ (n, c) ∷ [])
  addressed_on c a = All-push (λ (x : ℕ × Command). CommandAddressed x.1) cs (n, c) h.addressed a

  -- a command that declares no site
  pub holds_on : (new : SoFar) (c : Command) → site_named c ≡ None → CommandWithin 4096 c → CommandAddressed c → new.declared ≡ declared_with old.declared c →
      new.script.size ≡ size_in (cs ++ (n, c) ∷ []) → new.script.sites ≡ map (with_line n c) old.script.sites → IsSoFar (cs ++ (n, c) ∷ []) new
  holds_on new c none w a declared size sites = record {
    declared = declared_on new c declared;
    script = λ i. parts (size i) ((sites ∙ (ap (λ (s : LiveScript). map (with_line n c) s.sites) h.script ∙ sites_on cs n c none)) i);
    apart = subst NamesDiffer (sym (names_on cs n c none)) h.apart;
    few = let long = ap (λ (ns : List (List ℕ)). length ns) (names_on cs n c none) in omega (arith, long, h.few);
    within = within_on c w;
    addressed = addressed_on c a;
  }

  -- the size stays with one that gives none
  pub size_on : (c : Command) → size_given c ≡ None → old.script.size ≡ size_in (cs ++ (n, c) ∷ [])
  size_on c none = ap (λ (s : LiveScript). s.size) h.script ∙ sym (size_in-kept cs (n, c) none)

  pub size_opened : (size : Size) → old.declared.sheet ≡ false → size ≡ size_in (cs ++ (n, command.Sheet size) ∷ [])
  size_opened size e = sym (size_in-first nothing_declared cs n size (sym (ap (λ (d : Declared). d.sheet) h.declared) ∙ e))

  -- a site that is declared
  sites_closed : (sites : List (List ℕ)) → old.declared.sites ≡ sites → sites ≡ names_in cs → NamesDiffer sites
  sites_closed sites e f = subst NamesDiffer (sym f) h.apart

  pub declared_names : map name_of old.script.sites ≡ names_in cs
  declared_names = ap (λ (s : LiveScript). map name_of s.sites) h.script ∙ names_of cs (names_in cs)

  -- a site is added at an open state
  pub holds_site : (new : SoFar) (name : List ℕ) → old.declared.sites ≡ map name_of old.script.sites → fault_of old.declared (command.Site name) ≡ None → AddsSite old new name → IsSoFar (cs ++ (n, command.Site name) ∷ []) new
  holds_site new name same f adds = by_faults old.declared.sheet old.declared.closed (list_any (bytes_eq name) old.declared.sites) (nat_lt 7 (length old.declared.sites)) refl refl refl refl f
    where
      sites_are : old.declared.sites ≡ names_in cs
      sites_are = same ∙ declared_names

      names : names_in (cs ++ (n, command.Site name) ∷ []) ≡ names_in cs ++ name ∷ []
      names = names_in-append cs ((n, command.Site name) ∷ [])

      made : old.declared.closed ≡ false → list_any (bytes_eq name) old.declared.sites ≡ false → nat_lt 7 (length old.declared.sites) ≡ false → IsSoFar (cs ++ (n, command.Site name) ∷ []) new
      made unclosed new_name few = record {
        declared = declared_on new (command.Site name) (ap (λ (t : SoFar). t.declared) adds);
        script = ap (λ (t : SoFar). t.script) adds ∙ (ap (λ (s : LiveScript). record s { sites = s.sites ++ site_with name [] ∷ [] }) h.script ∙ (λ i. parts (sym (size_in-kept cs (n, command.Site name) refl) i) (sites_more i)));
        apart = subst NamesDiffer (sym names) (apart-push (names_in cs) name h.apart (subst (λ (ns : List (List ℕ)). list_any (bytes_eq name) ns ≡ false) sites_are new_name));
        few = fewer (length (names_in (cs ++ (n, command.Site name) ∷ []))) (length (names_in cs)) (ap (λ (ns : List (List ℕ)). length ns) names ∙ length-append (names_in cs) (name ∷ [])) (subst (λ (ns : List (List ℕ)). nat_lt 7 (length ns) ≡ false) sites_are few);
        within = within_on (command.Site name) tt;
        addressed = addressed_on (command.Site name) tt;
      }
        where
          fewer : (m k : ℕ) → m ≡ k + 1 → nat_lt 7 k ≡ false → m ≤ 8
          fewer m k e t = grind (arith, nat_tests)

          no_lines : site_lines name (cs ++ (n, command.Site name) ∷ []) ≡ []
          no_lines = site_lines-append name cs ((n, command.Site name) ∷ []) ∙ (append-nil (site_lines name cs) ∙ site_lines-open name nothing_declared cs (sym (ap (λ (d : Declared). d.closed) h.declared) ∙ unclosed))

          after : Commands
          after = cs ++ (n, command.Site name) ∷ []

          sites_more : map (site_in cs) (names_in cs) ++ site_with name [] ∷ [] ≡ map (site_in after) (names_in after)
          sites_more =
              (λ i. sym (idle n (command.Site name) (λ site. refl) (map (site_in cs) (names_in cs))) i ++ site_with name (sym no_lines i) ∷ [])
              ∙ ((λ i. lines_on cs n (command.Site name) (names_in cs) i ++ site_in after name ∷ [])
              ∙ (sym (map-append (site_in after) (names_in cs) (name ∷ [])) ∙ ap (map (site_in after)) (sym names)))

      by_faults : (a b c d : Bool) → old.declared.sheet ≡ a → old.declared.closed ≡ b → list_any (bytes_eq name) old.declared.sites ≡ c → nat_lt 7 (length old.declared.sites) ≡ d →
          ◌≡◌ {A = Option ScriptKind} (cond (not a) (Some kind.Sheet) (cond (b || (c || d)) (Some kind.Site) None)) None → IsSoFar (cs ++ (n, command.Site name) ∷ []) new
      by_faults false b c d e1 e2 e3 e4 f = absurd (cc)
      by_faults true true c d e1 e2 e3 e4 f = absurd (cc)
      by_faults true false true d e1 e2 e3 e4 f = absurd (cc)
      by_faults true false false true e1 e2 e3 e4 f = absurd (cc)
      by_faults true false false false e1 e2 e3 e4 f = made e2 e3 e4

-- what is declared goes on with the command
pub declared_next : (cs : Commands) (old new : SoFar) (n : ℕ) (c : Command) → IsSoFar cs old → IsSoFar (cs ++ (n, c) ∷ []) new → new.declared ≡ declared_with old.declared c
declared_next cs old new n c h k = k.declared ∙ (declared_from-append nothing_declared cs (n, c) ∙ ap (λ d. declared_with d c) (sym h.declared))

-- the names are apart
pub apart_here : (cs : Commands) (size : Option Size) (sites : List SiteScript) (closed : Bool) (old : SoFar) → so_far size sites closed ≡ old → IsSoFar cs old → NamesDiffer (map name_of sites)
apart_here cs size sites closed old is h = subst NamesDiffer (sym (ap (λ (t : SoFar). map name_of t.script.sites) is ∙ declared_names cs old h 0)) h.apart

pub held_note : (cs : Commands) (old : SoFar) (n : ℕ) (c : Command) → c ≡ command.Note → IsSoFar cs old → IsSoFar (cs ++ (n, c) ∷ []) old
held_note cs old n c is h = subst (λ (x : Command). IsSoFar (cs ++ (n, x) ∷ []) old) (sym is)
    (holds_on cs old h n old command.Note refl tt tt refl (size_on cs old h n command.Note refl) (sym (idle n command.Note (λ site. refl) old.script.sites)))

unopened : (d : Declared) (s : Size) → live_fault d (command.Sheet s) ≡ None → d.sheet ≡ false
unopened d s f = by_test d.sheet ((free d 0 (command.Sheet s) f).0)
  where
    by_test : (b : Bool) → ◌≡◌ {A = Option ScriptKind} (cond b (Some kind.Sheet) None) None → b ≡ false
    by_test true e = absurd (cc)
    by_test false e = refl

pub held_sheet : (cs : Commands) (size : Option Size) (sites : List SiteScript) (closed : Bool) (old : SoFar) → so_far size sites closed ≡ old → (n : ℕ) (c : Command) (s : Size) → c ≡ command.Sheet s → live_fault old.declared c ≡ None → CommandWithin 4096 c →
    IsSoFar cs old → IsSoFar (cs ++ (n, c) ∷ []) (so_far (Some s) sites closed)
held_sheet cs size sites closed old view n c s is f w h =
    let free_here = subst (λ (x : Command). live_fault old.declared x ≡ None) is f in
    let within_here = subst (CommandWithin 4096) is w in
    let same = ap (λ (t : SoFar). t.script.sites) view in
    subst (λ (x : Command). IsSoFar (cs ++ (n, x) ∷ []) (so_far (Some s) sites closed)) (sym is)
    (holds_on cs old h n (so_far (Some s) sites closed) (command.Sheet s) refl within_here tt (ap (λ (t : SoFar). declared_with t.declared (command.Sheet s)) view)
    (size_opened cs old h n s (unopened old.declared s free_here)) (same ∙ sym (idle n (command.Sheet s) (λ site. refl) old.script.sites)))

pub held_site : (cs : Commands) (old : SoFar) (n : ℕ) (c : Command) (name : List ℕ) (new : SoFar) → c ≡ command.Site name → live_fault old.declared c ≡ None → IsSoFar cs old → AddsSite old new name → IsSoFar (cs ++ (n, c) ∷ []) new
held_site cs old n c name new is f h adds =
    let free_here = subst (λ (x : Command). live_fault old.declared x ≡ None) is f in
    subst (λ (x : Command). IsSoFar (cs ++ (n, x) ∷ []) new) (sym is)
    (holds_site cs old h n new name (ap (λ (d : Declared). d.sites) h.declared ∙ (declared_sites nothing_declared cs ∙ sym (declared_names cs old h n))) ((free old.declared 0 (command.Site name) free_here).0) adds)

-- a command behind which no site may be declared
abbrev pub closing : Command → Bool
closing command.Note = false
closing (command.Sheet size) = false
closing (command.Site name) = false
closing _ = true

closes : (c : Command) → closing c ≡ true → (site_named c ≡ None) × (size_given c ≡ None) × ((d : Declared) → declared_with d c ≡ record d { closed = true })
closes command.Note e = absurd (cc)
closes (command.Sheet size) e = absurd (cc)
closes (command.Site name) e = absurd (cc)
closes (command.Edit name what) e = (refl, refl, λ d. refl)
closes (command.Push name count) e = (refl, refl, λ d. refl)
closes (command.Pull name count) e = (refl, refl, λ d. refl)
closes command.PushAll e = (refl, refl, λ d. refl)
closes command.PullAll e = (refl, refl, λ d. refl)
closes (command.Sync name) e = (refl, refl, λ d. refl)
closes (command.Recalc count) e = (refl, refl, λ d. refl)
closes (command.Read name range) e = (refl, refl, λ d. refl)
closes command.Values e = (refl, refl, λ d. refl)
closes command.History e = (refl, refl, λ d. refl)
closes command.Wire e = (refl, refl, λ d. refl)
closes (command.Show name) e = (refl, refl, λ d. refl)
closes command.ShowServer e = (refl, refl, λ d. refl)
closes command.End e = (refl, refl, λ d. refl)

pub held_closing : (cs : Commands) (size : Option Size) (sites : List SiteScript) (closed : Bool) (old : SoFar) → so_far size sites closed ≡ old → (n : ℕ) (c : Command) (added : List SiteScript) → closing c ≡ true → CommandWithin 4096 c → CommandAddressed c →
    IsSoFar cs old → added ≡ map (with_line n c) sites → IsSoFar (cs ++ (n, c) ∷ []) (so_far size added true)
held_closing cs size sites closed old view n c added e w a h is =
    let (none, unsized, shuts) = closes c e in
    holds_on cs old h n (so_far size added true) c none w a
    ((λ i. record { sheet = is_some size; sites = (ap (map name_of) is ∙ names_kept n c sites) i; closed = true }) ∙ (ap (λ (t : SoFar). record t.declared { closed = true }) view ∙ sym (shuts old.declared)))
    (ap (λ (t : SoFar). t.script.size) view ∙ size_on cs old h n c unsized)
    (is ∙ ap (λ (t : SoFar). map (with_line n c) t.script.sites) view)

abbrev pub IsLineless : Command → Type 0
IsLineless c = (c ≡ command.Note) ⊎ (((s : Size) × (c ≡ command.Sheet s)) ⊎ (((x : List ℕ) × (c ≡ command.Site x)) ⊎ (((k : Option ℕ) × (c ≡ command.Recalc k)) ⊎ ((c ≡ command.Values) ⊎ ((c ≡ command.History) ⊎ ((c ≡ command.Wire) ⊎ (((x : List ℕ) × (c ≡ command.Show x)) ⊎ ((c ≡ command.ShowServer) ⊎ (c ≡ command.End)))))))))

-- a command without a line changes no site
pub lineless : (n : ℕ) (c : Command) → IsLineless c → (sites : List SiteScript) → sites ≡ map (with_line n c) sites
lineless n c k sites = sym (idle n c (by_kind k) sites)
  where
    by_kind : IsLineless c → (site : List ℕ) → action_of site c ≡ None
    by_kind (inl e) site = ap (action_of site) e
    by_kind (inr (inl (s, e))) site = ap (action_of site) e
    by_kind (inr (inr (inl (x, e)))) site = ap (action_of site) e
    by_kind (inr (inr (inr (inl (x, e))))) site = ap (action_of site) e
    by_kind (inr (inr (inr (inr (inl e))))) site = ap (action_of site) e
    by_kind (inr (inr (inr (inr (inr (inl e)))))) site = ap (action_of site) e
    by_kind (inr (inr (inr (inr (inr (inr (inl e))))))) site = ap (action_of site) e
    by_kind (inr (inr (inr (inr (inr (inr (inr (inl (x, e))))))))) site = ap (action_of site) e
    by_kind (inr (inr (inr (inr (inr (inr (inr (inr (inl e))))))))) site = ap (action_of site) e
    by_kind (inr (inr (inr (inr (inr (inr (inr (inr (inr e))))))))) site = ap (action_of site) e

-- ---- a script that may run

abbrev IsWithin : ℕ × Command → Type 0
IsWithin c = CommandWithin 4096 c.1

abbrev IsAddressed : ℕ × Command → Type 0
IsAddressed c = CommandAddressed c.1

sized : (d : Declared) (cs : Commands) → d.sheet ≡ false → (declared_from d cs).sheet ≡ true → All (λ (c : ℕ × Command). CommandWithin 4096 c.1) cs → CommandWithin 4096 (command.Sheet (size_in cs))
sized d [] e f w = absurd (let clash : true ≡ false = sym f ∙ e in cc)
sized d ((n, command.Note) ∷ cs) e f w = sized (declared_with d command.Note) cs e f (All-tail IsWithin (n, command.Note) cs w)
sized d ((n, (command.Sheet size)) ∷ cs) e f w = All-head IsWithin (n, (command.Sheet size)) cs w
sized d ((n, (command.Site name)) ∷ cs) e f w = sized (declared_with d (command.Site name)) cs e f (All-tail IsWithin (n, (command.Site name)) cs w)
sized d ((n, (command.Edit name what)) ∷ cs) e f w = sized (declared_with d (command.Edit name what)) cs e f (All-tail IsWithin (n, (command.Edit name what)) cs w)
sized d ((n, (command.Push name count)) ∷ cs) e f w = sized (declared_with d (command.Push name count)) cs e f (All-tail IsWithin (n, (command.Push name count)) cs w)
sized d ((n, (command.Pull name count)) ∷ cs) e f w = sized (declared_with d (command.Pull name count)) cs e f (All-tail IsWithin (n, (command.Pull name count)) cs w)
sized d ((n, command.PushAll) ∷ cs) e f w = sized (declared_with d command.PushAll) cs e f (All-tail IsWithin (n, command.PushAll) cs w)
sized d ((n, command.PullAll) ∷ cs) e f w = sized (declared_with d command.PullAll) cs e f (All-tail IsWithin (n, command.PullAll) cs w)
sized d ((n, (command.Sync name)) ∷ cs) e f w = sized (declared_with d (command.Sync name)) cs e f (All-tail IsWithin (n, (command.Sync name)) cs w)
sized d ((n, (command.Recalc count)) ∷ cs) e f w = sized (declared_with d (command.Recalc count)) cs e f (All-tail IsWithin (n, (command.Recalc count)) cs w)
sized d ((n, (command.Read name range)) ∷ cs) e f w = sized (declared_with d (command.Read name range)) cs e f (All-tail IsWithin (n, (command.Read name range)) cs w)
sized d ((n, command.Values) ∷ cs) e f w = sized (declared_with d command.Values) cs e f (All-tail IsWithin (n, command.Values) cs w)
sized d ((n, command.History) ∷ cs) e f w = sized (declared_with d command.History) cs e f (All-tail IsWithin (n, command.History) cs w)
sized d ((n, command.Wire) ∷ cs) e f w = sized (declared_with d command.Wire) cs e f (All-tail IsWithin (n, command.Wire) cs w)
sized d ((n, (command.Show name)) ∷ cs) e f w = sized (declared_with d (command.Show name)) cs e f (All-tail IsWithin (n, (command.Show name)) cs w)
sized d ((n, command.ShowServer) ∷ cs) e f w = sized (declared_with d command.ShowServer) cs e f (All-tail IsWithin (n, command.ShowServer) cs w)
sized d ((n, command.End) ∷ cs) e f w = sized (declared_with d command.End) cs e f (All-tail IsWithin (n, command.End) cs w)

abbrev OnAction : Option Action → Type 0
OnAction None = Unit {0}
OnAction (Some a) = ActionWithin a

for_one : (site name : List ℕ) (a : Action) → ActionWithin a → OnAction (only_for site name a)
for_one site name a w = by_test (bytes_eq site name)
  where
    by_test : (b : Bool) → OnAction (cond b (Some a) None)
    by_test true = w
    by_test false = tt

action_within : (site : List ℕ) (c : Command) → CommandWithin 4096 c → CommandAddressed c → OnAction (action_of site c)
action_within site command.Note w a = tt
action_within site (command.Sheet size) w a = tt
action_within site (command.Site name) w a = tt
action_within site (command.Edit name what) w a = for_one site name (action.Edit what) w
action_within site (command.Push name count) w a = for_one site name (action.Push count) tt
action_within site (command.Pull name count) w a = for_one site name (action.Pull count) tt
action_within site command.PushAll w a = tt
action_within site command.PullAll w a = tt
action_within site (command.Sync name) w a = for_one site name action.Sync tt
action_within site (command.Recalc count) w a = tt
action_within site (command.Read name range) w a = for_one site name (action.Read range) (w.0, w.1, a.0, a.1)
action_within site command.Values w a = tt
action_within site command.History w a = tt
action_within site command.Wire w a = tt
action_within site (command.Show name) w a = tt
action_within site command.ShowServer w a = tt
action_within site command.End w a = tt

lines_within : (site : List ℕ) (cs : Commands) → All (λ (c : ℕ × Command). CommandWithin 4096 c.1) cs → All (λ (c : ℕ × Command). CommandAddressed c.1) cs → LinesWithin (site_lines site cs)
lines_within site [] w a = All-nil _
lines_within site (c ∷ cs) w a = before (action_of site c.1) (action_within site c.1 (All-head IsWithin c cs w) (All-head IsAddressed c cs a)) (lines_within site cs (All-tail IsWithin c cs w) (All-tail IsAddressed c cs a))
  where
    before : (o : Option Action) → OnAction o → LinesWithin (site_lines site cs) → LinesWithin (line_before c.0 o (site_lines site cs))
    before None y rest = rest
    before (Some x) y rest = All-cons (λ (l : SiteLine). ActionWithin l.action) (record { number = c.0; action = x }) (site_lines site cs) y rest

sites_within : (cs : Commands) → All (λ (c : ℕ × Command). CommandWithin 4096 c.1) cs → All (λ (c : ℕ × Command). CommandAddressed c.1) cs → (names : List (List ℕ)) → All (λ (site : SiteScript). LinesWithin site.lines) (map (site_in cs) names)
sites_within cs w a [] = All-nil _
sites_within cs w a (name ∷ names) = All-cons (λ (site : SiteScript). LinesWithin site.lines) (site_in cs name) (map (site_in cs) names) (lines_within name cs w a) (sites_within cs w a names)

pub opened : (cs : Commands) (s : SoFar) → IsSoFar cs s → s.declared.sheet ≡ true → IsOpened s.script
opened cs s h sheet = subst IsOpened (sym h.script) (
    let size = sized nothing_declared cs refl (sym (ap (λ (d : Declared). d.sheet) h.declared) ∙ sheet) h.within in record {
      rows = (size.0, size.1);
      cols = (size.2, size.3);
      few = let long = length-map (names_in cs) (site_in cs) in omega (arith, long, h.few);
      apart = subst NamesDiffer (sym (names_of cs (names_in cs))) h.apart;
      within = sites_within cs h.within h.addressed (names_in cs);
    })
