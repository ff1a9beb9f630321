-- The command that is found for a line has the line's form.
use Rattle.std.proofs.Common.{◌≡◌, ℕ, Bool, true, false, cond, List, [], ◌∷◌, refl, sym, subst, ◌∙◌, ap, arith, Option, Some, None}
use Rattle.std.specs.Prelude.{nat_eq, nat_le, ◌&&◌, codes, option_map, unwrap_or}
use Rattle.std.specs.List.{list_all, join_with_byte}
use Rattle.std.specs.Str.{bytes_eq}
use Rattle.std.proofs.lemmas.Bool.Decides.{nat_tests}
use Rattle.std.proofs.lemmas.List.Splits.{join_with_byte-slice_split}
use Rattle.std.proofs.lemmas.Slice.Eq.{bytes_eq-Decides}
use Rattle.ss_base.specs.declared.types.Span.{Span}
use Rattle.ss_base.specs.declared.types.Spot.{Spot}
use Rattle.cell_addr.specs.Cells.{cell_of, range_of}
use Rattle.cell_addr.specs.Columns.{col_named}
use Rattle.cell_addr.specs.Rows.{counted, row_numbered}
use Rattle.sheet_ops.specs.declared.edit.Edit.{Edit}
use Rattle.sheet_ops.specs.declared.edit.Edit.TheVariants as edit
use Rattle.script_read.specs.declared.command.Command.{Command}
use Rattle.script_read.specs.declared.command.Command.TheVariants as command
use Rattle.script_read.specs.Words.{is_line_byte, is_site_name, words, named}
use Rattle.script_read.specs.Commands.{command_of, is_note, sheet_sized, push_of, pull_of, plain_cell, plain_range, set_of, clear_of, read_of, copy_of, row_range_of, is_downward, sort_command, sort_of, line_edit_of, of_one_word, of_one_site, of_two_words, of_one_line, of_three_words, of_more_words, of_words}
use Rattle.script_read.specs.Grammar.{IsWord, IsName, NumbersRow, NamesCol, direction, two, three, IsForm, IsCommand}
use Rattle.script_read.specs.Grammar as line
use Rattle.script_read.proofs.Spaced.{EachWord, words_are, cell_is_word}

pub same_of : {A : Type 0} (x y : A) → Some x ≡ Some y → x ≡ y
same_of x y h = ap (λ o. unwrap_or o x) h

-- what holds of what is found holds of the command
as_found : (text : List ℕ) (d c : Command) → IsForm text d → Some d ≡ Some c → IsForm text c
as_found text d c f h = subst (λ x. IsForm text x) (same_of d c h) f

-- by a test of a word
pick_by : (P : Type 0) (a k : List ℕ) (x y : Option Command) (c : Command) (t : Bool) → bytes_eq a k ≡ t → (a ≡ k → x ≡ Some c → P) → (y ≡ Some c → P) → cond t x y ≡ Some c → P
pick_by P a k x y c true e hit miss h = hit ((bytes_eq-Decides a k).0 e) h
pick_by P a k x y c false e hit miss h = miss h

pick : (P : Type 0) (a k : List ℕ) (x y : Option Command) (c : Command) → (a ≡ k → x ≡ Some c → P) → (y ≡ Some c → P) → cond (bytes_eq a k) x y ≡ Some c → P
pick P a k x y c hit miss h = pick_by P a k x y c (bytes_eq a k) refl hit miss h

-- by a name
name_by : (text name : List ℕ) (f : List ℕ → Command) (c : Command) (t : Bool) → is_site_name name ≡ t → (is_site_name name ≡ true → IsForm text (f name)) →
    option_map f (cond t (Some name) None) ≡ Some c → IsForm text c
name_by text name f c true e form h = as_found text (f name) c (form e) h
name_by text name f c false e form h = absurd (cc)

by_name : (text name : List ℕ) (f : List ℕ → Command) (c : Command) → (is_site_name name ≡ true → IsForm text (f name)) → option_map f (named name) ≡ Some c → IsForm text c
by_name text name f c form h = name_by text name f c (is_site_name name) refl form h

-- where the first word is a keyword, and where the second one is
at_first : (k : List ℕ) (rest : List ℕ) (a : List ℕ) (c : Command) → a ≡ k → IsForm (two k rest) c → IsForm (two a rest) c
at_first k rest a c e f = subst (λ w. IsForm (two w rest) c) (sym e) f

at_last : (a k b : List ℕ) (c : Command) → b ≡ k → IsForm (two a k) c → IsForm (two a b) c
at_last a k b c e f = subst (λ w. IsForm (two a w) c) (sym e) f

at_second : (a k b rest : List ℕ) (c : Command) → b ≡ k → IsForm (three a k rest) c → IsForm (three a b rest) c
at_second a k b rest c e f = subst (λ w. IsForm (three a w rest) c) (sym e) f

-- ---- one word

one_at : (a k : List ℕ) (d c : Command) → IsForm k d → a ≡ k → Some d ≡ Some c → IsForm a c
one_at a k d c f e h = subst (λ w. IsForm w c) (sym e) (as_found k d c f h)

one_word : (a : List ℕ) (c : Command) → of_one_word a ≡ Some c → IsForm a c
one_word a c =
    pick (IsForm a c) a (codes "recalc") _ _ c (one_at a (codes "recalc") (command.Recalc None) c line.recalc)
    (pick (IsForm a c) a (codes "values") _ _ c (one_at a (codes "values") command.Values c line.values)
    (pick (IsForm a c) a (codes "history") _ _ c (one_at a (codes "history") command.History c line.history)
    (pick (IsForm a c) a (codes "wire") _ _ c (one_at a (codes "wire") command.Wire c line.wire)
    (pick (IsForm a c) a (codes "end") _ _ c (one_at a (codes "end") command.End c line.ends)
    (λ h. absurd (cc))))))

-- ---- two words

count_by : (count : List ℕ) (c : Command) → IsWord count → (o : Option ℕ) → counted count ≡ o → option_map (λ n. command.Recalc (Some n)) o ≡ Some c → IsForm (two (codes "recalc") count) c
count_by count c w None e h = absurd (cc)
count_by count c w (Some n) e h = as_found (two (codes "recalc") count) (command.Recalc (Some n)) c (line.recalc_some count n (w, e)) h

one_site : (a b : List ℕ) (c : Command) → IsWord a → of_one_site a b ≡ Some c → IsForm (two a b) c
one_site a b c w =
    pick (IsForm (two a b) c) b (codes "push") _ _ c
    (λ e h. at_last a (codes "push") b c e (by_name (two a (codes "push")) a (λ name. command.Push name None) c (λ n. line.push a (w, n)) h))
    (pick (IsForm (two a b) c) b (codes "pull") _ _ c
    (λ e h. at_last a (codes "pull") b c e (by_name (two a (codes "pull")) a (λ name. command.Pull name None) c (λ n. line.pull a (w, n)) h))
    (pick (IsForm (two a b) c) b (codes "sync") _ _ c
    (λ e h. at_last a (codes "sync") b c e (by_name (two a (codes "sync")) a command.Sync c (λ n. line.sync a (w, n)) h))
    (λ h. absurd (cc))))

server_or_site : (b : List ℕ) (c : Command) → IsWord b → cond (bytes_eq b (codes "server")) (Some command.ShowServer) (option_map command.Show (named b)) ≡ Some c → IsForm (two (codes "show") b) c
server_or_site b c w =
    pick (IsForm (two (codes "show") b) c) b (codes "server") _ _ c
    (λ e h. at_last (codes "show") (codes "server") b c e (as_found (two (codes "show") (codes "server")) command.ShowServer c line.show_server h))
    (by_name (two (codes "show") b) b command.Show c (λ n. line.show b (w, n)))

all_sites : (k b : List ℕ) (d c : Command) → IsForm (two k (codes "all")) d → cond (bytes_eq b (codes "all")) (Some d) None ≡ Some c → IsForm (two k b) c
all_sites k b d c f =
    pick (IsForm (two k b) c) b (codes "all") _ _ c
    (λ e h. at_last k (codes "all") b c e (as_found (two k (codes "all")) d c f h))
    (λ h. absurd (cc))

two_words : (a b : List ℕ) (c : Command) → IsWord a → IsWord b → of_two_words a b ≡ Some c → IsForm (two a b) c
two_words a b c v w =
    pick (IsForm (two a b) c) a (codes "site") _ _ c
    (λ e h. at_first (codes "site") b a c e (by_name (two (codes "site") b) b command.Site c (λ n. line.site b (w, n)) h))
    (pick (IsForm (two a b) c) a (codes "show") _ _ c (λ e h. at_first (codes "show") b a c e (server_or_site b c w h))
    (pick (IsForm (two a b) c) a (codes "push") _ _ c (λ e h. at_first (codes "push") b a c e (all_sites (codes "push") b command.PushAll c line.push_all h))
    (pick (IsForm (two a b) c) a (codes "pull") _ _ c (λ e h. at_first (codes "pull") b a c e (all_sites (codes "pull") b command.PullAll c line.pull_all h))
    (pick (IsForm (two a b) c) a (codes "recalc") _ _ c (λ e h. at_first (codes "recalc") b a c e (count_by b c w (counted b) refl h))
    (one_site a b c v)))))

-- ---- three words

capped_by : (rows cols : List ℕ) (c : Command) → IsWord rows → IsWord cols → (m n : ℕ) → counted rows ≡ Some m → counted cols ≡ Some n →
    (s t : Bool) → nat_le m 1000 ≡ s → nat_le n 64 ≡ t → cond (s && t) (Some (command.Sheet (record { rows = m; cols = n }))) None ≡ Some c →
    IsForm (three (codes "sheet") rows cols) c
capped_by rows cols c v w m n e f true true p q h =
    as_found (three (codes "sheet") rows cols) (command.Sheet (record { rows = m; cols = n })) c
    (line.sheet rows cols m n (v, e) (w, f) (grind (arith, nat_tests)) (grind (arith, nat_tests))) h
capped_by rows cols c v w m n e f true false p q h = absurd (cc)
capped_by rows cols c v w m n e f false t p q h = absurd (cc)

sheet_by : (rows cols : List ℕ) (c : Command) → IsWord rows → IsWord cols → (o p : Option ℕ) → counted rows ≡ o → counted cols ≡ p → sheet_sized o p ≡ Some c →
    IsForm (three (codes "sheet") rows cols) c
sheet_by rows cols c v w None p e f h = absurd (cc)
sheet_by rows cols c v w (Some m) None e f h = absurd (cc)
sheet_by rows cols c v w (Some m) (Some n) e f h = capped_by rows cols c v w m n e f (nat_le m 1000) (nat_le n 64) refl refl h

push_by : (name count : List ℕ) (c : Command) → IsWord name → IsWord count → (t : Bool) → is_site_name name ≡ t → (o : Option ℕ) → counted count ≡ o →
    push_of (cond t (Some name) None) o ≡ Some c → IsForm (three name (codes "push") count) c
push_by name count c v w false e o f h = absurd (cc)
push_by name count c v w true e None f h = absurd (cc)
push_by name count c v w true e (Some n) f h = as_found (three name (codes "push") count) (command.Push name (Some n)) c (line.push_some name count n (v, e) (w, f)) h

pull_by : (name count : List ℕ) (c : Command) → IsWord name → IsWord count → (t : Bool) → is_site_name name ≡ t → (o : Option ℕ) → counted count ≡ o →
    pull_of (cond t (Some name) None) o ≡ Some c → IsForm (three name (codes "pull") count) c
pull_by name count c v w false e o f h = absurd (cc)
pull_by name count c v w true e None f h = absurd (cc)
pull_by name count c v w true e (Some n) f h = as_found (three name (codes "pull") count) (command.Pull name (Some n)) c (line.pull_some name count n (v, e) (w, f)) h

read_by : (name range : List ℕ) (c : Command) → IsWord name → IsWord range → (t : Bool) → is_site_name name ≡ t → (o : Option Span) → plain_range (range_of range) ≡ o →
    read_of (cond t (Some name) None) o ≡ Some c → IsForm (three name (codes "read") range) c
read_by name range c v w false e o f h = absurd (cc)
read_by name range c v w true e None f h = absurd (cc)
read_by name range c v w true e (Some span) f h = as_found (three name (codes "read") range) (command.Read name span) c (line.read name range span (v, e) (w, f)) h

clear_by : (name cell : List ℕ) (c : Command) → IsWord name → IsWord cell → (t : Bool) → is_site_name name ≡ t → (o : Option Spot) → plain_cell (cell_of cell) ≡ o →
    clear_of (cond t (Some name) None) o ≡ Some c → IsForm (three name (codes "clear") cell) c
clear_by name cell c v w false e o f h = absurd (cc)
clear_by name cell c v w true e None f h = absurd (cc)
clear_by name cell c v w true e (Some spot) f h =
    as_found (three name (codes "clear") cell) (command.Edit name (edit.Clear spot)) c (line.clear name cell spot (v, e) (w, f)) h

-- an edit of one line, by what it is and by which index its last word says
line_by : (text name : List ℕ) (what : ℕ → Edit) (c : Command) (t : Bool) → is_site_name name ≡ t → (o p : Option ℕ) → o ≡ p →
    (is_site_name name ≡ true → (n : ℕ) → o ≡ Some n → IsForm text (command.Edit name (what n))) → line_edit_of what (cond t (Some name) None) p ≡ Some c → IsForm text c
line_by text name what c false e o p f form h = absurd (cc)
line_by text name what c true e o None f form h = absurd (cc)
line_by text name what c true e o (Some n) f form h = as_found text (command.Edit name (what n)) c (form e n f) h

one_line : (a b d : List ℕ) (c : Command) → IsWord a → IsWord d → of_one_line a b d ≡ Some c → IsForm (three a b d) c
one_line a b d c v w =
    pick (IsForm (three a b d) c) b (codes "insrow") _ _ c
    (λ e h. at_second a (codes "insrow") b d c e
    (line_by (three a (codes "insrow") d) a edit.InsRow c (is_site_name a) refl (row_numbered d) (row_numbered d) refl (λ n row f. line.insrow a d row (v, n) (w, f)) h))
    (pick (IsForm (three a b d) c) b (codes "inscol") _ _ c
    (λ e h. at_second a (codes "inscol") b d c e
    (line_by (three a (codes "inscol") d) a edit.InsCol c (is_site_name a) refl (col_named d) (col_named d) refl (λ n col f. line.inscol a d col (v, n) (w, f)) h))
    (pick (IsForm (three a b d) c) b (codes "delrow") _ _ c
    (λ e h. at_second a (codes "delrow") b d c e
    (line_by (three a (codes "delrow") d) a edit.DelRow c (is_site_name a) refl (row_numbered d) (row_numbered d) refl (λ n row f. line.delrow a d row (v, n) (w, f)) h))
    (pick (IsForm (three a b d) c) b (codes "delcol") _ _ c
    (λ e h. at_second a (codes "delcol") b d c e
    (line_by (three a (codes "delcol") d) a edit.DelCol c (is_site_name a) refl (col_named d) (col_named d) refl (λ n col f. line.delcol a d col (v, n) (w, f)) h))
    (λ h. absurd (cc)))))

three_words : (a b d : List ℕ) (c : Command) → IsWord a → IsWord b → IsWord d → of_three_words a b d ≡ Some c → IsForm (three a b d) c
three_words a b d c u v w =
    pick (IsForm (three a b d) c) a (codes "sheet") _ _ c
    (λ e h. at_first (codes "sheet") (two b d) a c e (sheet_by b d c v w (counted b) (counted d) refl refl h))
    (pick (IsForm (three a b d) c) b (codes "push") _ _ c
    (λ e h. at_second a (codes "push") b d c e (push_by a d c u w (is_site_name a) refl (counted d) refl h))
    (pick (IsForm (three a b d) c) b (codes "pull") _ _ c
    (λ e h. at_second a (codes "pull") b d c e (pull_by a d c u w (is_site_name a) refl (counted d) refl h))
    (pick (IsForm (three a b d) c) b (codes "read") _ _ c
    (λ e h. at_second a (codes "read") b d c e (read_by a d c u w (is_site_name a) refl (plain_range (range_of d)) refl h))
    (pick (IsForm (three a b d) c) b (codes "clear") _ _ c
    (λ e h. at_second a (codes "clear") b d c e (clear_by a d c u w (is_site_name a) refl (plain_cell (cell_of d)) refl h))
    (one_line a b d c u w)))))

-- ---- more words

set_by : (name cell rest : List ℕ) (c : Command) → IsWord name → IsWord cell → (t : Bool) → is_site_name name ≡ t → (o : Option Spot) → plain_cell (cell_of cell) ≡ o →
    set_of (cond t (Some name) None) o rest ≡ Some c → IsForm (three name (codes "set") (two cell rest)) c
set_by name cell rest c v w false e o f h = absurd (cc)
set_by name cell rest c v w true e None f h = absurd (cc)
set_by name cell [] c v w true e (Some spot) f h = absurd (cc)
set_by name cell (b ∷ entry) c v w true e (Some spot) f h =
    as_found (three name (codes "set") (two cell (b ∷ entry))) (command.Edit name (edit.Set spot (b ∷ entry))) c (line.set name cell entry spot b (v, e) (w, f)) h

copy_by : (name range rest : List ℕ) (c : Command) → IsWord name → IsWord range → (t : Bool) → is_site_name name ≡ t →
    (o : Option Span) → plain_range (range_of range) ≡ o → (p : Option Spot) → plain_cell (cell_of rest) ≡ p →
    copy_of (cond t (Some name) None) o p ≡ Some c → IsForm (three name (codes "copy") (two range rest)) c
copy_by name range rest c v w false e o f p g h = absurd (cc)
copy_by name range rest c v w true e None f p g h = absurd (cc)
copy_by name range rest c v w true e (Some span) f None g h = absurd (cc)
copy_by name range rest c v w true e (Some span) f (Some spot) g h =
    as_found (three name (codes "copy") (two range rest)) (command.Edit name (edit.Copy span spot)) c
    (line.copy name range rest span spot (v, e) (w, f) (cell_is_word rest spot g, g)) h

-- the last word of a sort
down_by : (word : List ℕ) (down : Bool) → is_downward word ≡ Some down → word ≡ direction down
down_by word down h =
    pick_direction (bytes_eq word (codes "up")) (bytes_eq word (codes "down")) refl refl h
  where
    pick_direction : (s t : Bool) → bytes_eq word (codes "up") ≡ s → bytes_eq word (codes "down") ≡ t → cond s (Some false) (cond t (Some true) None) ≡ Some down → word ≡ direction down
    pick_direction true t p q k = (bytes_eq-Decides word (codes "up")).0 p ∙ ap direction (same_of false down k)
    pick_direction false true p q k = (bytes_eq-Decides word (codes "down")).0 q ∙ ap direction (same_of true down k)
    pick_direction false false p q k = absurd (cc)

sorted_by : (name rows letters last : List ℕ) (c : Command) → IsWord name → IsWord rows → IsWord letters → (t : Bool) → is_site_name name ≡ t →
    (o : Option (ℕ × ℕ)) → row_range_of rows ≡ o → (p : Option ℕ) → col_named letters ≡ p → (q : Option Bool) → is_downward last ≡ q →
    sort_command (cond t (Some name) None) o p q ≡ Some c → IsForm (three name (codes "sort") (three rows letters last)) c
sorted_by name rows letters last c u v w false e o f p g q k h = absurd (cc)
sorted_by name rows letters last c u v w true e None f p g q k h = absurd (cc)
sorted_by name rows letters last c u v w true e (Some r) f None g q k h = absurd (cc)
sorted_by name rows letters last c u v w true e (Some r) f (Some col) g None k h = absurd (cc)
sorted_by name rows letters last c u v w true e (Some (a, b)) f (Some col) g (Some down) k h =
    as_found (three name (codes "sort") (three rows letters last)) (command.Edit name (edit.Sort a b col down)) c
    (subst (λ word. IsForm (three name (codes "sort") (three rows letters word)) (command.Edit name (edit.Sort a b col down))) (sym (down_by last down k))
    (line.sort name rows letters a b col down (u, e) (v, f) (w, g))) h

sort_by : (name rows rest : List ℕ) (c : Command) → IsWord name → IsWord rows → (ws : List (List ℕ)) → EachWord ws → join_with_byte 32 ws ≡ rest →
    sort_of ws (named name) (row_range_of rows) ≡ Some c → IsForm (three name (codes "sort") (two rows rest)) c
sort_by name rows rest c u v [] k e h = absurd (cc)
sort_by name rows rest c u v (a ∷ []) k e h = absurd (cc)
sort_by name rows rest c u v (a ∷ b ∷ []) k e h =
    subst (λ text. IsForm (three name (codes "sort") (two rows text)) c) e
    (sorted_by name rows a b c u v k.0 (is_site_name name) refl (row_range_of rows) refl (col_named a) refl (is_downward b) refl h)
sort_by name rows rest c u v (a ∷ b ∷ d ∷ ws) k e h = absurd (cc)

more_words : (a b d rest : List ℕ) (c : Command) → IsWord a → IsWord d → of_more_words a b d rest ≡ Some c → IsForm (three a b (two d rest)) c
more_words a b d rest c u w =
    pick (IsForm (three a b (two d rest)) c) b (codes "set") _ _ c
    (λ e h. at_second a (codes "set") b (two d rest) c e (set_by a d rest c u w (is_site_name a) refl (plain_cell (cell_of d)) refl h))
    (pick (IsForm (three a b (two d rest)) c) b (codes "copy") _ _ c
    (λ e h. at_second a (codes "copy") b (two d rest) c e
    (copy_by a d rest c u w (is_site_name a) refl (plain_range (range_of d)) refl (plain_cell (cell_of rest)) refl h))
    (pick (IsForm (three a b (two d rest)) c) b (codes "sort") _ _ c
    (λ e h. at_second a (codes "sort") b (two d rest) c e (sort_by a d rest c u w (words rest) (words_are rest) (join_with_byte-slice_split 32 rest) h))
    (λ h. absurd (cc))))

-- ---- a line

by_words : (ws : List (List ℕ)) (c : Command) → EachWord ws → of_words ws ≡ Some c → IsForm (join_with_byte 32 ws) c
by_words [] c w h = absurd (cc)
by_words (a ∷ []) c w h = one_word a c h
by_words (a ∷ b ∷ []) c w h = two_words a b c w.0 w.1.0 h
by_words (a ∷ b ∷ d ∷ []) c w h = three_words a b d c w.0 w.1.0 w.1.1.0 h
by_words (a ∷ b ∷ d ∷ e ∷ ws) c w h = more_words a b d (join_with_byte 32 (e ∷ ws)) c w.0 w.1.1.0 h

note_by : (b : ℕ) (bs : List ℕ) (c : Command) (t : Bool) → nat_eq b 35 ≡ t → cond t (Some command.Note) (of_words (words (b ∷ bs))) ≡ Some c → IsForm (b ∷ bs) c
note_by b bs c true e h =
    let same : b ≡ 35 = grind (arith, nat_tests) in
    subst (λ n. IsForm (n ∷ bs) c) (sym same) (as_found (35 ∷ bs) command.Note c (line.note bs) h)
note_by b bs c false e h = subst (λ text. IsForm text c) (join_with_byte-slice_split 32 (b ∷ bs)) (by_words (words (b ∷ bs)) c (words_are (b ∷ bs)) h)

plain_line : (text : List ℕ) (c : Command) → cond (is_note text) (Some command.Note) (of_words (words text)) ≡ Some c → IsForm text c
plain_line [] c h = as_found [] command.Note c line.blank h
plain_line (b ∷ bs) c h = note_by b bs c (nat_eq b 35) refl h

clean_by : (text : List ℕ) (c : Command) (t : Bool) → list_all is_line_byte text ≡ t → cond t (cond (is_note text) (Some command.Note) (of_words (words text))) None ≡ Some c → IsCommand text c
clean_by text c true e h = (e, plain_line text c h)
clean_by text c false e h = absurd (cc)

pub found_form : (text : List ℕ) (c : Command) → command_of text ≡ Some c → IsCommand text c
found_form text c h = clean_by text c (list_all is_line_byte text) refl h
