-- A chain that gets a place at its end, or loses its first one.
use Rattle.std.proofs.Common.{◌≡◌, ◌≢◌, ⊎_elim, ℕ, suc, ◌+◌, ◌<◌, List, [], ◌∷◌, ◌++◌, length, get_or, Option, Some, None, refl, sym, ◌∙◌, ap, subst, arith, option_to_list, slice_set}
use Rattle.std.specs.List.{AllByRecursion}
use Rattle.std.proofs.lemmas.List.{append-nil, length-append, length-set, get_or-set_same, get_or-set_other}
use Rattle.std.proofs.lemmas.Bool.{cases_eq}
use Rattle.fs_model.specs.Cells.{key_of}
use Rattle.conflict_queue.specs.declared.types.Held.{Held}
use Rattle.conflict_queue.specs.declared.nodes.Node.{Node}
use Rattle.conflict_queue.specs.declared.key_chains.Chain.{Chain}
use Rattle.conflict_queue.specs.Waiting.{waiting, AddsLast, TakesFirst}
use Rattle.conflict_queue.specs.Chains.{IsChain, held_at, next_of, key_held, node_with, held_in, held_by, all_held, last_of, bare, chain_with, IsNotIn, IsKeyChain, IsTable, Lacks, Extends, Shortens}
use Rattle.conflict_queue.proofs.ChainLaws.{not_in_key, not_in_tail, chain_kept, held_kept, last_key, last_within, Links, chain_more, last_more, held_append, some_held, held_length}
use Rattle.conflict_queue.proofs.TableLaws.{all_front, all_back, all_joined, once_front, once_back, once_without, once_with, once_more, all_held_append, held_by_is, lacks_waiting, adds_middle, takes_middle}

-- a chain stays where the places with its key stay
other_kept : (ns ms : List Node) (d : Chain) (i : ℕ) → length ms ≡ length ns → key_held (held_at ns i) ≢ Some d.key → ((y : ℕ) → key_held (held_at ns y) ≡ Some d.key → y ≢ i → get_or ms y bare ≡ get_or ns y bare)
    → IsKeyChain ns d → IsKeyChain ms d × (held_by ms d ≡ held_by ns d)
other_kept ns ms d i l ne same is =
    let out = not_in_key ns (Some d.key) (Some d.first) (d.first ∷ is.rest) i ne is.chain in
    let kept : IsKeyChain ms d = record { rest = is.rest; chain = chain_kept ns ms (Some d.key) (Some d.first) (d.first ∷ is.rest) i l same out is.chain; last = is.last; short = subst (λ (n : ℕ). length is.rest < n) (sym l) is.short } in
    (kept, held_by_is ms d kept ∙ held_kept ns ms (Some d.key) (Some d.first) (d.first ∷ is.rest) i (λ y key ni. ap (λ (n : Node). n.held) (same y key ni)) out is.chain ∙ sym (held_by_is ns d is))

-- the writes to places leave those of other keys than k as they were
pub record Spares (ns ms : List Node) (k i : ℕ) : Type 0 where
  pub lengths : length ms ≡ length ns
  pub apart : (j : ℕ) → j ≢ k → key_held (held_at ns i) ≢ Some j
  pub same : (j : ℕ) → j ≢ k → (y : ℕ) → key_held (held_at ns y) ≡ Some j → y ≢ i → get_or ms y bare ≡ get_or ns y bare

chains_kept : (ns ms : List Node) (k i : ℕ) → Spares ns ms k i → (cs : List Chain) → Lacks cs k → AllByRecursion (IsKeyChain ns) cs → AllByRecursion (IsKeyChain ms) cs
chains_kept ns ms k i spares [] lacks all = tt
chains_kept ns ms k i spares (c ∷ cs) lacks all = ((other_kept ns ms c i spares.lengths (spares.apart c.key lacks.0) (spares.same c.key lacks.0) all.0).0, chains_kept ns ms k i spares cs lacks.1 all.1)

holdings_kept : (ns ms : List Node) (k i : ℕ) → Spares ns ms k i → (cs : List Chain) → Lacks cs k → AllByRecursion (IsKeyChain ns) cs → all_held ms cs ≡ all_held ns cs
holdings_kept ns ms k i spares [] lacks all = refl
holdings_kept ns ms k i spares (c ∷ cs) lacks all =
    let one = (other_kept ns ms c i spares.lengths (spares.apart c.key lacks.0) (spares.same c.key lacks.0) all.0).1 in
    let rest = holdings_kept ns ms k i spares cs lacks.1 all.1 in
    cc (one, rest)

-- a table with one chain changed
middle : (ns ms : List Node) (p q : List Chain) (c d : Chain) (i : ℕ) → Spares ns ms c.key i → d.key ≡ c.key → IsTable ns (p ++ c ∷ q) → IsKeyChain ms d → IsTable ms (p ++ d ∷ q)
middle ns ms p q c d i spares e table is =
    let each = IsKeyChain ns in
    let now = IsKeyChain ms in
    record {
      chains = all_joined now p (d ∷ q) (chains_kept ns ms c.key i spares p (once_front p q c table.keys) (all_front each p (c ∷ q) table.chains))
          (is, chains_kept ns ms c.key i spares q (once_back p q c table.keys) (all_back each p (c ∷ q) table.chains).1);
      keys = once_with p q c d e table.keys;
    }

middle_held : (ns ms : List Node) (p q : List Chain) (c d : Chain) (i : ℕ) → Spares ns ms c.key i → IsTable ns (p ++ c ∷ q) → all_held ms (p ++ d ∷ q) ≡ all_held ns p ++ (held_by ms d ++ all_held ns q)
middle_held ns ms p q c d i spares table =
    let each = IsKeyChain ns in
    let front = holdings_kept ns ms c.key i spares p (once_front p q c table.keys) (all_front each p (c ∷ q) table.chains) in
    let back = holdings_kept ns ms c.key i spares q (once_back p q c table.keys) (all_back each p (c ∷ q) table.chains).1 in
    all_held_append ms p (d ∷ q) ∙ ap (λ (hs : List Held). hs ++ (held_by ms d ++ all_held ms q)) front ∙ ap (λ (hs : List Held). all_held ns p ++ (held_by ms d ++ hs)) back

-- A chain gets one more place.
pub extended : (ns : List Node) (p q : List Chain) (c : Chain) (i : ℕ) (h : Held) → IsTable ns (p ++ c ∷ q) → c.key ≡ key_of h.request → i < length ns → held_at ns i ≡ None → length (all_held ns (p ++ c ∷ q)) < length ns
    → Extends ns (p ++ c ∷ q) (slice_set (slice_set ns c.last (node_with (held_at ns c.last) (Some i))) i (node_with (Some h) None)) (p ++ record c { last = i } ∷ q) i h
extended ns p q c i h table key lt free below =
    let is : IsKeyChain ns c = (all_back (IsKeyChain ns) p (c ∷ q) table.chains).0 in
    let rest = is.rest in
    let xs : List ℕ = c.first ∷ rest in
    let l = c.last in
    let d : Chain = record c { last = i } in
    let linked = node_with (held_at ns l) (Some i) in
    let mid = slice_set ns l linked in
    let new = node_with (Some h) None in
    let ms = slice_set mid i new in
    let l_key : key_held (held_at ns l) ≡ Some c.key = ap (λ (n : ℕ). key_held (held_at ns n)) (sym is.last) ∙ last_key ns (Some c.key) (Some c.first) c.first rest is.chain in
    let l_lt : l < length ns = subst (λ (n : ℕ). n < length ns) is.last (last_within ns (Some c.key) (Some c.first) c.first rest is.chain) in
    let i_key : key_held (held_at ns i) ≡ None = ap key_held free in
    let apart : l ≢ i = λ e. let f : key_held (held_at ns l) ≡ key_held (held_at ns i) = ap (λ (n : ℕ). key_held (held_at ns n)) e in cc (l_key, i_key, f) in
    let lengths : length ms ≡ length ns = length-set mid i new ∙ length-set ns l linked in
    let at_l : get_or ms l bare ≡ linked = get_or-set_other mid i l new bare apart ∙ get_or-set_same ns l linked bare l_lt in
    let at_i : get_or ms i bare ≡ new = get_or-set_same mid i new bare (subst (λ (n : ℕ). i < n) (sym (length-set ns l linked)) lt) in
    let at_y : (y : ℕ) → y ≢ i → y ≢ l → get_or ms y bare ≡ get_or ns y bare = λ y ni nl. get_or-set_other mid i y new bare ni ∙ get_or-set_other ns l y linked bare nl in
    let helds : (y : ℕ) → y ≢ i → held_at ms y ≡ held_at ns y = λ y ni. ⊎_elim (λ e. let same : held_at ms l ≡ held_at ns l = ap (λ (n : Node). n.held) at_l in ap (held_at ms) e ∙ same ∙ ap (held_at ns) (sym e)) (λ nl. ap (λ (n : Node). n.held) (at_y y ni nl)) (cases_eq y l) in
    let links : Links ns ms (Some c.key) l i = record {
      lengths = lengths;
      nexts = λ y ni nl. ap (λ (n : Node). n.next) (at_y y ni nl);
      helds = helds;
      linked = ap (λ (n : Node). n.next) at_l;
      ends = ap (λ (n : Node). n.next) at_i;
      key = ap (λ (n : Node). key_held n.held) at_i ∙ ap (λ (n : ℕ). Some n) (sym key);
      within = subst (λ (n : ℕ). i < n) (sym lengths) lt;
    } in
    let spares : Spares ns ms c.key i = record {
      lengths = lengths;
      apart = λ j nj e. cc (i_key, e);
      same = λ j nj y y_key ni. at_y y ni (λ e. let f : key_held (held_at ns y) ≡ key_held (held_at ns l) = ap (λ (n : ℕ). key_held (held_at ns n)) e in nj (cc (y_key, l_key, f)));
    } in
    let out : IsNotIn i xs = not_in_key ns (Some c.key) (Some c.first) xs i (λ e. cc (i_key, e)) is.chain in
    let all_is : all_held ns (p ++ c ∷ q) ≡ all_held ns p ++ (held_by ns c ++ all_held ns q) = all_held_append ns p (c ∷ q) in
    let by : held_by ns c ≡ held_in ns xs = held_by_is ns c is in
    let short : length (rest ++ i ∷ []) < length ms =
    let l1 : length (all_held ns (p ++ c ∷ q)) ≡ length (all_held ns p) + length (held_by ns c ++ all_held ns q) = ap length all_is ∙ length-append (all_held ns p) (held_by ns c ++ all_held ns q) in
    let l2 = length-append (held_by ns c) (all_held ns q) in
    let l3 : length (held_by ns c) ≡ suc (length rest) = ap length by ∙ held_length ns c.key (Some c.first) xs is.chain in
    let l4 = length-append rest (i ∷ []) in
    omega (arith, l1, l2, l3, l4, lengths, below) in
    let now : IsKeyChain ms d = record { rest = rest ++ i ∷ []; chain = chain_more ns ms (Some c.key) (Some c.first) c.first rest l i links is.last out is.chain; last = last_more c.first rest i; short = short } in
    let holds : held_by ms d ≡ held_by ns c ++ h ∷ [] = held_by_is ms d now ∙ held_append ms xs (i ∷ [])
    ∙ ap (λ (hs : List Held). hs ++ held_in ms (i ∷ [])) (held_kept ns ms (Some c.key) (Some c.first) xs i (λ y y_key ni. helds y ni) out is.chain ∙ sym by)
    ∙ ap (λ (n : Node). held_by ns c ++ (option_to_list n.held ++ [])) at_i in
    let new_is : all_held ms (p ++ d ∷ q) ≡ all_held ns p ++ ((held_by ns c ++ h ∷ []) ++ all_held ns q) = middle_held ns ms p q c d i spares table ∙ ap (λ (hs : List Held). all_held ns p ++ (hs ++ all_held ns q)) holds in
    let none : waiting (all_held ns q) (key_of h.request) ≡ [] = ap (λ (n : ℕ). waiting (all_held ns q) n) (sym key) ∙ lacks_waiting ns q c.key (all_back (IsKeyChain ns) p (c ∷ q) table.chains).1 (once_back p q c table.keys) in
    record {
      table = middle ns ms p q c d i spares refl table now;
      added = subst (λ (hs : List Held). AddsLast hs (all_held ms (p ++ d ∷ q)) h) (sym all_is) (subst (λ (hs : List Held). AddsLast (all_held ns p ++ (held_by ns c ++ all_held ns q)) hs h) (sym new_is) (adds_middle (all_held ns p) (held_by ns c) (all_held ns q) h none));
      rest = λ at ys chain not_in. chain_kept ns ms None at ys i lengths (λ y y_key ni. at_y y ni (λ e. let f : key_held (held_at ns y) ≡ key_held (held_at ns l) = ap (λ (n : ℕ). key_held (held_at ns n)) e in cc (y_key, l_key, f))) not_in chain;
      nodes = lengths;
    }

-- A key gets its first place.
pub begun : (ns : List Node) (cs : List Chain) (i : ℕ) (h : Held) → IsTable ns cs → Lacks cs (key_of h.request) → i < length ns → held_at ns i ≡ None
    → Extends ns cs (slice_set ns i (node_with (Some h) None)) (cs ++ chain_with (key_of h.request) i i ∷ []) i h
begun ns cs i h table lacks lt free =
    let k = key_of h.request in
    let d = chain_with k i i in
    let new = node_with (Some h) None in
    let ms = slice_set ns i new in
    let i_key : key_held (held_at ns i) ≡ None = ap key_held free in
    let lengths : length ms ≡ length ns = length-set ns i new in
    let at_i : get_or ms i bare ≡ new = get_or-set_same ns i new bare lt in
    let at_y : (y : ℕ) → y ≢ i → get_or ms y bare ≡ get_or ns y bare = λ y ni. get_or-set_other ns i y new bare ni in
    let spares : Spares ns ms k i = record { lengths = lengths; apart = λ j nj e. cc (i_key, e); same = λ j nj y y_key ni. at_y y ni } in
    let now : IsKeyChain ms d = record { rest = []; chain = (refl, subst (λ (n : ℕ). i < n) (sym lengths) lt, ap (λ (n : Node). key_held n.held) at_i, ap (λ (n : Node). n.next) at_i); last = refl; short = omega (arith, lt, lengths) } in
    let holds : held_by ms d ≡ h ∷ [] = held_by_is ms d now ∙ ap (λ (n : Node). option_to_list n.held ++ []) at_i in
    let new_is : all_held ms (cs ++ d ∷ []) ≡ all_held ns cs ++ h ∷ [] = all_held_append ms cs (d ∷ []) ∙ ap (λ (hs : List Held). hs ++ (held_by ms d ++ [])) (holdings_kept ns ms k i spares cs lacks table.chains) ∙ ap (λ (hs : List Held). all_held ns cs ++ (hs ++ [])) holds in
    record {
      table = record { chains = all_joined (IsKeyChain ms) cs (d ∷ []) (chains_kept ns ms k i spares cs lacks table.chains) (now, tt); keys = once_more cs d lacks table.keys };
      added = subst (λ (hs : List Held). AddsLast hs (all_held ms (cs ++ d ∷ [])) h) (append-nil (all_held ns cs)) (subst (λ (hs : List Held). AddsLast (all_held ns cs ++ []) hs h) (sym new_is) (adds_middle (all_held ns cs) [] [] h refl));
      rest = λ at ys chain not_in. chain_kept ns ms None at ys i lengths (λ y y_key ni. at_y y ni) not_in chain;
      nodes = lengths;
    }

-- What taking the first place of a chain leaves.
record Taken (ns : List Node) (c : Chain) (is : IsKeyChain ns c) (at : Option ℕ) : Type 0 where
  pub item : Held
  pub held : held_at ns c.first ≡ Some item
  pub key : key_of item.request ≡ c.key
  pub lengths : length (slice_set ns c.first (node_with None at)) ≡ length ns
  pub spares : Spares ns (slice_set ns c.first (node_with None at)) c.key c.first
  pub rest : IsChain (slice_set ns c.first (node_with None at)) (Some c.key) (next_of ns c.first) is.rest
  pub holds : held_by ns c ≡ item ∷ held_in (slice_set ns c.first (node_with None at)) is.rest
  pub gains : (xs : List ℕ) → IsChain ns None at xs → IsChain (slice_set ns c.first (node_with None at)) None (Some c.first) (c.first ∷ xs)

taken : (ns : List Node) (c : Chain) (is : IsKeyChain ns c) (at : Option ℕ) → Taken ns c is at
taken ns c is at =
    let i = c.first in
    let new = node_with None at in
    let ms = slice_set ns i new in
    let rest = is.rest in
    let i_key : key_held (held_at ns i) ≡ Some c.key = is.chain.2 in
    let lt : i < length ns = is.chain.1 in
    let some = some_held (held_at ns i) c.key i_key in
    let h : Held = some.0 in
    let lengths : length ms ≡ length ns = length-set ns i new in
    let at_i : get_or ms i bare ≡ new = get_or-set_same ns i new bare lt in
    let at_y : (y : ℕ) → y ≢ i → get_or ms y bare ≡ get_or ns y bare = λ y ni. get_or-set_other ns i y new bare ni in
    let out : IsNotIn i rest = not_in_tail ns (Some c.key) (next_of ns i) rest (i ∷ rest) i is.chain (omega arith) is.chain.3 in
    let kept : held_in ms rest ≡ held_in ns rest = held_kept ns ms (Some c.key) (next_of ns i) rest i (λ y y_key ni. ap (λ (n : Node). n.held) (at_y y ni)) out is.chain.3 in
    record {
      item = h;
      held = some.1;
      key = some.2;
      lengths = lengths;
      spares = record { lengths = lengths; apart = λ j nj e. nj (cc (i_key, e)); same = λ j nj y y_key ni. at_y y ni };
      rest = chain_kept ns ms (Some c.key) (next_of ns i) rest i lengths (λ y y_key ni. at_y y ni) out is.chain.3;
      holds = held_by_is ns c is ∙ ap (λ (o : Option Held). option_to_list o ++ held_in ns rest) some.1 ∙ ap (λ (hs : List Held). h ∷ hs) (sym kept);
      gains = λ xs chain.
          let not_in : IsNotIn i xs = not_in_key ns None at xs i (λ e. cc (i_key, e)) chain in
          let behind : IsChain ms None at xs = chain_kept ns ms None at xs i lengths (λ y y_key ni. at_y y ni) not_in chain in
          (refl, subst (λ (n : ℕ). i < n) (sym lengths) lt, ap (λ (n : Node). key_held n.held) at_i, subst (λ (o : Option ℕ). IsChain ms None o xs) (ap (λ (n : Node). n.next) (sym at_i)) behind);
    }

-- The chain goes on behind its first place.
pub shortened : (ns : List Node) (p q : List Chain) (c : Chain) (at : Option ℕ) (y : ℕ) (h : Held) → IsTable ns (p ++ c ∷ q) → next_of ns c.first ≡ Some y → held_at ns c.first ≡ Some h
    → Shortens ns (p ++ c ∷ q) (slice_set ns c.first (node_with None at)) (p ++ record c { first = y } ∷ q) at c h
shortened ns p q c at y h table next held =
    let is : IsKeyChain ns c = (all_back (IsKeyChain ns) p (c ∷ q) table.chains).0 in
    by_rest is.rest is.chain is.last is.short (taken ns c is at).rest (taken ns c is at)
  where
    by_rest : (rest : List ℕ) (chain : IsChain ns (Some c.key) (Some c.first) (c.first ∷ rest)) (last : last_of c.first rest ≡ c.last) (short : length rest < length ns) → IsChain (slice_set ns c.first (node_with None at)) (Some c.key) (next_of ns c.first) rest
        → Taken ns c (record { rest = rest; chain = chain; last = last; short = short }) at
        → Shortens ns (p ++ c ∷ q) (slice_set ns c.first (node_with None at)) (p ++ record c { first = y } ∷ q) at c h
    by_rest [] chain last short goes took = absurd (cc (goes, next))
    by_rest (z ∷ zs) chain last short goes took =
        let ms = slice_set ns c.first (node_with None at) in
        let d : Chain = record c { first = y } in
        let g = goes.0 in
        let e : z ≡ y = cc (g, next) in
        let now : IsKeyChain ms d = record {
          rest = zs;
          chain = subst (λ (n : ℕ). IsChain ms (Some c.key) (Some n) (n ∷ zs)) e (subst (λ (o : Option ℕ). IsChain ms (Some c.key) o (z ∷ zs)) goes.0 goes);
          last = subst (λ (n : ℕ). last_of n zs ≡ c.last) e last;
          short = omega (arith, short, took.lengths);
        } in
        let holds : held_by ms d ≡ held_in ms (z ∷ zs) = held_by_is ms d now ∙ ap (λ (n : ℕ). held_in ms (n ∷ zs)) (sym e) in
        let item : took.item ≡ h = let a = took.held in cc (a, held) in
        let old_is : all_held ns (p ++ c ∷ q) ≡ all_held ns p ++ ((h ∷ held_by ms d) ++ all_held ns q) = all_held_append ns p (c ∷ q) ∙ ap (λ (hs : List Held). all_held ns p ++ (hs ++ all_held ns q)) (took.holds ∙ ap (λ (hs : List Held). took.item ∷ hs) (sym holds) ∙ ap (λ (x : Held). x ∷ held_by ms d) item) in
        let new_is : all_held ms (p ++ d ∷ q) ≡ all_held ns p ++ (held_by ms d ++ all_held ns q) = middle_held ns ms p q c d c.first took.spares table in
        let key : key_of h.request ≡ c.key = subst (λ (x : Held). key_of x.request ≡ c.key) item took.key in
        let none : waiting (all_held ns p) c.key ≡ [] = lacks_waiting ns p c.key (all_front (IsKeyChain ns) p (c ∷ q) table.chains) (once_front p q c table.keys) in
        record {
          table = middle ns ms p q c d c.first took.spares refl table now;
          taken = subst (λ (hs : List Held). TakesFirst hs (all_held ms (p ++ d ∷ q)) c.key h) (sym old_is) (subst (λ (hs : List Held). TakesFirst (all_held ns p ++ ((h ∷ held_by ms d) ++ all_held ns q)) hs c.key h) (sym new_is) (takes_middle (all_held ns p) (held_by ms d) (all_held ns q) c.key h key none));
          free = took.gains;
          nodes = took.lengths;
        }

-- The chain had one place.
pub ended : (ns : List Node) (p q : List Chain) (c : Chain) (at : Option ℕ) (h : Held) → IsTable ns (p ++ c ∷ q) → next_of ns c.first ≡ None → held_at ns c.first ≡ Some h
    → Shortens ns (p ++ c ∷ q) (slice_set ns c.first (node_with None at)) (p ++ q) at c h
ended ns p q c at h table next held =
    let is : IsKeyChain ns c = (all_back (IsKeyChain ns) p (c ∷ q) table.chains).0 in
    by_rest is.rest is.chain is.last is.short (taken ns c is at).rest (taken ns c is at)
  where
    by_rest : (rest : List ℕ) (chain : IsChain ns (Some c.key) (Some c.first) (c.first ∷ rest)) (last : last_of c.first rest ≡ c.last) (short : length rest < length ns) → IsChain (slice_set ns c.first (node_with None at)) (Some c.key) (next_of ns c.first) rest
        → Taken ns c (record { rest = rest; chain = chain; last = last; short = short }) at
        → Shortens ns (p ++ c ∷ q) (slice_set ns c.first (node_with None at)) (p ++ q) at c h
    by_rest (z ∷ zs) chain last short goes took = let g = goes.0 in absurd (cc (g, next))
    by_rest [] chain last short goes took =
        let ms = slice_set ns c.first (node_with None at) in
        let each = IsKeyChain ns in
        let front = once_front p q c table.keys in
        let back = once_back p q c table.keys in
        let before = all_front each p (c ∷ q) table.chains in
        let behind = (all_back each p (c ∷ q) table.chains).1 in
        let item : took.item ≡ h = let a = took.held in cc (a, held) in
        let old_is : all_held ns (p ++ c ∷ q) ≡ all_held ns p ++ ((h ∷ []) ++ all_held ns q) = all_held_append ns p (c ∷ q) ∙ ap (λ (hs : List Held). all_held ns p ++ (hs ++ all_held ns q)) (took.holds ∙ ap (λ (x : Held). x ∷ []) item) in
        let new_is : all_held ms (p ++ q) ≡ all_held ns p ++ ([] ++ all_held ns q) = all_held_append ms p q ∙ ap (λ (hs : List Held). hs ++ all_held ms q) (holdings_kept ns ms c.key c.first took.spares p front before) ∙ ap (λ (hs : List Held). all_held ns p ++ hs) (holdings_kept ns ms c.key c.first took.spares q back behind) in
        let key : key_of h.request ≡ c.key = subst (λ (x : Held). key_of x.request ≡ c.key) item took.key in
        let none : waiting (all_held ns p) c.key ≡ [] = lacks_waiting ns p c.key before front in
        record {
          table = record { chains = all_joined (IsKeyChain ms) p q (chains_kept ns ms c.key c.first took.spares p front before) (chains_kept ns ms c.key c.first took.spares q back behind); keys = once_without p q c table.keys };
          taken = subst (λ (hs : List Held). TakesFirst hs (all_held ms (p ++ q)) c.key h) (sym old_is) (subst (λ (hs : List Held). TakesFirst (all_held ns p ++ ((h ∷ []) ++ all_held ns q)) hs c.key h) (sym new_is) (takes_middle (all_held ns p) [] (all_held ns q) c.key h key none));
          free = took.gains;
          nodes = took.lengths;
        }
