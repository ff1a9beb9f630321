-- The command that is found for a line is the one of the grammar.
use Rattle.std.proofs.Common.{◌≡◌, ℕ, Bool, true, false, ◌≤◌, List, [], ◌∷◌, refl, ◌∙◌, ap, arith, Some, None}
use Rattle.std.specs.Prelude.{nat_eq, nat_le, ◌||◌, not, codes}
use Rattle.std.specs.Char.{is_ascii_lowercase}
use Rattle.std.specs.List.{list_all, list_any}
use Rattle.std.specs.Str.{bytes_eq}
use Rattle.std.proofs.lemmas.Bool.Decides.{nat_tests}
use Rattle.cell_addr.specs.Rows.{counted}
use Rattle.sheet_ops.specs.declared.edit.Edit.TheVariants as edit
use Rattle.script_read.specs.declared.command.Command.{Command}
use Rattle.script_read.specs.declared.command.Command.TheVariants as command
use Rattle.script_read.specs.Words.{is_line_byte, is_site_name, is_reserved, words, named}
use Rattle.script_read.specs.Commands.{command_of, is_note, sheet_sized, row_range_of, is_downward, sort_of, of_more_words, of_words}
use Rattle.script_read.specs.Grammar.{IsWord, IsName, Counts, NumbersRow, NamesCol, IsCell, IsRange, AreRows, direction, two, three, IsForm}
use Rattle.script_read.specs.Grammar as line
use Rattle.script_read.proofs.Cuts.{of_words-more}
use Rattle.script_read.proofs.Spaced.{words_one, words_two, words_three, left, right}

-- ---- from the grammar to the command

no : (a : Bool) → not a ≡ true → a ≡ false
no true h = absurd (cc)
no false h = refl

-- a name begins with no `#`, and is no word that is reserved
letter : (b : ℕ) (t : Bool) → nat_eq b 35 ≡ t → is_ascii_lowercase b ≡ true → t ≡ false
letter b true e h = absurd (grind (arith, nat_tests))
letter b false e h = refl

pub no_note : (name rest : List ℕ) → is_site_name name ≡ true → is_note (two name rest) ≡ false
no_note [] rest h = absurd (cc)
no_note (b ∷ bs) rest h = letter b (nat_eq b 35) refl (left (is_ascii_lowercase b) _ h)

unreserved : (name : List ℕ) → is_site_name name ≡ true → is_reserved name ≡ false
unreserved [] h = absurd (cc)
unreserved (b ∷ bs) h = no (is_reserved (b ∷ bs)) (right _ _ (right _ _ (right (is_ascii_lowercase b) _ h)))

abbrev EachFails : (List ℕ → Bool) → List (List ℕ) → Type 0
EachFails test [] = Unit {0}
EachFails test (w ∷ ws) = (test w ≡ false) × EachFails test ws

fails_by : (test : List ℕ → Bool) (w : List ℕ) (ws : List (List ℕ)) (t : Bool) → test w ≡ t → (t || list_any test ws) ≡ false →
    (list_any test ws ≡ false → EachFails test ws) → EachFails test (w ∷ ws)
fails_by test w ws true e h more = absurd (cc)
fails_by test w ws false e h more = (e, more h)

each_fails : (test : List ℕ → Bool) (ws : List (List ℕ)) → list_any test ws ≡ false → EachFails test ws
each_fails test [] h = tt
each_fails test (w ∷ ws) h = fails_by test w ws (test w) refl h (each_fails test ws)

-- a name is none of the words that begin a line, or stand in place of a name
record Differs (name : List ℕ) : Type 0 where
  sheet : bytes_eq name (codes "sheet") ≡ false
  site : bytes_eq name (codes "site") ≡ false
  push : bytes_eq name (codes "push") ≡ false
  pull : bytes_eq name (codes "pull") ≡ false
  recalc : bytes_eq name (codes "recalc") ≡ false
  show : bytes_eq name (codes "show") ≡ false
  server : bytes_eq name (codes "server") ≡ false

differs : (name : List ℕ) → is_site_name name ≡ true → Differs name
differs name h =
    let f = each_fails (bytes_eq name) (words (codes "sheet site push pull recalc show values history wire end all server")) (unreserved name h) in
    record { sheet = f.0; site = f.1.0; push = f.1.1.0; pull = f.1.1.1.0; recalc = f.1.1.1.1.0; show = f.1.1.1.1.1.0; server = f.1.1.1.1.1.1.1.1.1.1.1.0 }

-- by the words of a line that is no note
pub found : (text : List ℕ) (ws : List (List ℕ)) (c : Command) → list_all is_line_byte text ≡ true → is_note text ≡ false → words text ≡ ws → of_words ws ≡ Some c →
    command_of text ≡ Some c
found text ws c clean plain e h = rw (clean, plain, e, h)

two_words : (name word : List ℕ) → IsName name → IsWord word → words (two name word) ≡ name ∷ word ∷ []
two_words name word n w = words_two name word n.0 ∙ ap (λ (ws : List (List ℕ)). name ∷ ws) (words_one word w)

three_words : (a b c : List ℕ) → IsWord a → IsWord b → IsWord c → words (three a b c) ≡ a ∷ b ∷ c ∷ []
three_words a b c u v w = words_three a b c u v ∙ ap (λ (ws : List (List ℕ)). a ∷ b ∷ ws) (words_one c w)

four_words : (a b c rest : List ℕ) → IsWord a → IsWord b → IsWord c → words (three a b (two c rest)) ≡ a ∷ b ∷ c ∷ words rest
four_words a b c rest u v w = words_three a b (two c rest) u v ∙ ap (λ (ws : List (List ℕ)). a ∷ b ∷ ws) (words_two c rest w)

within : (n most : ℕ) (t : Bool) → nat_le n most ≡ t → n ≤ most → t ≡ true
within n most true e h = refl
within n most false e h = absurd (grind (arith, nat_tests))

sheet_found : (rows cols : List ℕ) (m n : ℕ) → counted rows ≡ Some m → counted cols ≡ Some n → m ≤ 1000 → n ≤ 64 →
    sheet_sized (counted rows) (counted cols) ≡ Some (command.Sheet (record { rows = m; cols = n }))
sheet_found rows cols m n e f low high =
    let a = within m 1000 (nat_le m 1000) refl low in
    let b = within n 64 (nat_le n 64) refl high in
    rw (e, f, a, b)

down_found : (down : Bool) → is_downward (direction down) ≡ Some down
down_found false = refl
down_found true = refl

direction_word : (down : Bool) → words (direction down) ≡ direction down ∷ []
direction_word false = refl
direction_word true = refl

sort_found : (name rows letters : List ℕ) (first last col : ℕ) (down : Bool) → is_site_name name ≡ true → row_range_of rows ≡ Some (first, last) → NamesCol letters col →
    sort_of (words (two letters (direction down))) (named name) (row_range_of rows) ≡ Some (command.Edit name (edit.Sort first last col down))
sort_found name rows letters first last col down n r k =
    let split = words_two letters (direction down) k.0 ∙ ap (λ (ws : List (List ℕ)). letters ∷ ws) (direction_word down) in
    let e = down_found down in
    let f = k.1 in
    rw (split, n, r, f, e)

-- a line that begins with a name, by how many words it has
name_two : (name word : List ℕ) (d : Command) → IsName name → IsWord word → of_words (name ∷ word ∷ []) ≡ Some d →
    list_all is_line_byte (two name word) ≡ true → command_of (two name word) ≡ Some d
name_two name word d n w h clean = found (two name word) (name ∷ word ∷ []) d clean (no_note name word n.1) (two_words name word n w) h

name_three : (name word last : List ℕ) (d : Command) → IsName name → IsWord word → IsWord last → of_words (name ∷ word ∷ last ∷ []) ≡ Some d →
    list_all is_line_byte (three name word last) ≡ true → command_of (three name word last) ≡ Some d
name_three name word last d n w k h clean =
    found (three name word last) (name ∷ word ∷ last ∷ []) d clean (no_note name (two word last) n.1) (three_words name word last n.0 w k) h

name_more : (name word third rest : List ℕ) (d : Command) → IsName name → IsWord word → IsWord third → of_more_words name word third rest ≡ Some d →
    list_all is_line_byte (three name word (two third rest)) ≡ true → command_of (three name word (two third rest)) ≡ Some d
name_more name word third rest d n w k h clean =
    found (three name word (two third rest)) (name ∷ word ∷ third ∷ words rest) d clean (no_note name (two word (two third rest)) n.1)
    (four_words name word third rest n.0 w k) (of_words-more name word third rest ∙ h)

-- Each form: the words of the line, the tests that a name fails, and what its words say.
pub form_found : {text : List ℕ} {c : Command} → IsForm text c → list_all is_line_byte text ≡ true → command_of text ≡ Some c
form_found line.blank clean = refl
form_found (line.note text) clean = rw clean
form_found (line.sheet rows cols m n r k low high) clean =
    found (three (codes "sheet") rows cols) (codes "sheet" ∷ rows ∷ cols ∷ []) (command.Sheet (record { rows = m; cols = n })) clean refl
    (three_words (codes "sheet") rows cols refl r.0 k.0) (sheet_found rows cols m n r.1 k.1 low high)
form_found (line.site name n) clean =
    found (two (codes "site") name) (codes "site" ∷ name ∷ []) (command.Site name) clean refl
    (ap (λ (ws : List (List ℕ)). codes "site" ∷ ws) (words_one name n.0)) (rw n.1)
form_found (line.set name cell entry spot b n k) clean =
    name_more name (codes "set") cell (b ∷ entry) (command.Edit name (edit.Set spot (b ∷ entry))) n refl k.0 (rw (n.1, k.1)) clean
form_found (line.clear name cell spot n k) clean =
    name_three name (codes "clear") cell (command.Edit name (edit.Clear spot)) n refl k.0 (let d = differs name n.1 in rw (d.sheet, n.1, k.1)) clean
form_found (line.insrow name number row n k) clean =
    name_three name (codes "insrow") number (command.Edit name (edit.InsRow row)) n refl k.0 (let d = differs name n.1 in rw (d.sheet, n.1, k.1)) clean
form_found (line.inscol name letters col n k) clean =
    name_three name (codes "inscol") letters (command.Edit name (edit.InsCol col)) n refl k.0 (let d = differs name n.1 in rw (d.sheet, n.1, k.1)) clean
form_found (line.delrow name number row n k) clean =
    name_three name (codes "delrow") number (command.Edit name (edit.DelRow row)) n refl k.0 (let d = differs name n.1 in rw (d.sheet, n.1, k.1)) clean
form_found (line.delcol name letters col n k) clean =
    name_three name (codes "delcol") letters (command.Edit name (edit.DelCol col)) n refl k.0 (let d = differs name n.1 in rw (d.sheet, n.1, k.1)) clean
form_found (line.copy name range cell span spot n r k) clean =
    name_more name (codes "copy") range cell (command.Edit name (edit.Copy span spot)) n refl r.0 (rw (n.1, r.1, k.1)) clean
form_found (line.sort name rows letters first last col down n r k) clean =
    name_more name (codes "sort") rows (two letters (direction down)) (command.Edit name (edit.Sort first last col down)) n refl r.0
    (sort_found name rows letters first last col down n.1 r.1 k) clean
form_found (line.push name n) clean =
    name_two name (codes "push") (command.Push name None) n refl (let d = differs name n.1 in rw (d.site, d.show, d.push, d.pull, d.recalc, n.1)) clean
form_found (line.push_some name count m n k) clean =
    name_three name (codes "push") count (command.Push name (Some m)) n refl k.0 (let d = differs name n.1 in rw (d.sheet, n.1, k.1)) clean
form_found line.push_all clean = refl
form_found (line.pull name n) clean =
    name_two name (codes "pull") (command.Pull name None) n refl (let d = differs name n.1 in rw (d.site, d.show, d.push, d.pull, d.recalc, n.1)) clean
form_found (line.pull_some name count m n k) clean =
    name_three name (codes "pull") count (command.Pull name (Some m)) n refl k.0 (let d = differs name n.1 in rw (d.sheet, n.1, k.1)) clean
form_found line.pull_all clean = refl
form_found (line.sync name n) clean =
    name_two name (codes "sync") (command.Sync name) n refl (let d = differs name n.1 in rw (d.site, d.show, d.push, d.pull, d.recalc, n.1)) clean
form_found line.recalc clean = refl
form_found (line.recalc_some count m k) clean =
    found (two (codes "recalc") count) (codes "recalc" ∷ count ∷ []) (command.Recalc (Some m)) clean refl
    (ap (λ (ws : List (List ℕ)). codes "recalc" ∷ ws) (words_one count k.0)) (rw k.1)
form_found (line.read name range span n k) clean =
    name_three name (codes "read") range (command.Read name span) n refl k.0 (let d = differs name n.1 in rw (d.sheet, n.1, k.1)) clean
form_found line.values clean = refl
form_found line.history clean = refl
form_found line.wire clean = refl
form_found (line.show name n) clean =
    found (two (codes "show") name) (codes "show" ∷ name ∷ []) (command.Show name) clean refl
    (ap (λ (ws : List (List ℕ)). codes "show" ∷ ws) (words_one name n.0)) (let d = differs name n.1 in rw (d.server, n.1))
form_found line.show_server clean = refl
form_found line.ends clean = refl
