-- A lock: a word hands a token and the permission of a cell to whoever sets it, and takes them back.
--
--     version 1;
--     machine Lock {
--       field v: variable;
--       init begin() { init v = 0; }
--       transition to(n) { update v = n; }
--     }
--     program {
--       word l[1] = 0 with (n) { holds v (n) when value = 0; holds perm [0 => n] when value = 0; }
--       cell e[1] = 0;
--       start begin() () -> (s) { seal l[0] (0) [s, e[0]]; give a (); give b (); }
--       thread a () { } ends () { } {
--         loop () { } from () {
--           o = cas l[0] 0 1 when o = 0
--             proof { open (n) []; case 1 yes s; case 2 yes p; close (n) [no, no]; } {
--               x = read e[0] with p;
--               x = x + 1;
--               do to(x) (s) -> ();
--               write e[0] = x with p;
--               store l[0] = 0 proof { open (m) []; case 1 no; case 2 no; close (x) [s, p]; };
--               break ();
--             }
--             else proof { still; } { next (); }
--         } after () { }
--         end ();
--       }
--       thread b () { } ends () { } {
--         loop () { } from () {
--           o = cas l[0] 0 1 when o = 0
--             proof { open (n) []; case 1 yes s; case 2 yes p; close (n) [no, no]; } {
--               x = read e[0] with p;
--               x = x + 1;
--               do to(x) (s) -> ();
--               write e[0] = x with p;
--               store l[0] = 0 proof { open (m) []; case 1 no; case 2 no; close (x) [s, p]; };
--               break ();
--             }
--             else proof { still; } { next (); }
--         } after () { }
--         end ();
--       }
--     }
use Rattle.std.specs.Prelude.{◌≡◌, pos, true, false, [], ◌∷◌, Some, None, refl}
use Rattle.sync_base.specs.declared.strategies.Strategy.TheVariants as strategies
use Rattle.sync_base.specs.declared.strategies.OpMode.TheVariants as modes
use Rattle.sync_terms.specs.Trees as tree
use Rattle.sync_terms.specs.Values.{truth}
use Rattle.sync_machine.specs.Machines as acts
use Rattle.sync_machine.specs.States.{sort_of}
use Rattle.sync_machine.specs.Statements.{presence, amount_is_natural, freshness, enabling, safety, condition, added}
use Rattle.sync_machine.specs.Statements.{removed, after as left_by, field_of as field_in, changed_by}
use Rattle.sync_rules.specs.Locality.{names_only, form_names_only, has_local_terms}
use Rattle.sync_rules.specs.Obligations.{names, form_names}
use Rattle.sync_rules.specs.Slots.{needs, started_at, updated_to, act_slot}
use Rattle.sync_exchange_values.specs.Fitting.{form_fits, number_fits, map_fits}
use Rattle.sync_exchange.specs.Exchange.{held_as, stored_at, argument, token_name, does}
use Rattle.sync_thread.specs.declared.operands.Opd.TheVariants as opd
use Rattle.sync_thread.specs.declared.operands.Rel.TheVariants as rel
use Rattle.sync_thread.specs.declared.operands.Calc.TheVariants as calc
use Rattle.sync_thread.specs.declared.operands.WordOp.TheVariants as op
use Rattle.sync_thread.specs.Control as c
use Rattle.sync_thread.specs.Control.{run, unwind}
use Rattle.sync_thread.specs.Programs as p
use Rattle.sync_thread.specs.Code.{code_list, code_of}
use Rattle.sync_thread_meaning.specs.MachineWithProgram.{MachineWithProgram}
use Rattle.sync_thread_meaning.specs.Exchanges.{are_safe, guarded_key}
use Rattle.sync_thread_meaning.proofs.Examples.{seen, seen_erased}

abbrev lock : MachineWithProgram
lock = record {
  machine = record {
    name = 0;
    fields = (record { name = 1; strategy = strategies.Variable; line = 3 } ∷ []);
    ops =
        (record {
          name = 3;
          mode = modes.Init;
          params = [];
          steps = (record { act = acts.Init 0 (tree.Lit (pos 0)); line = 4 } ∷ []);
          line = 4;
        } ∷ record {
          name = 4;
          mode =
              modes.Transition;
          params = (84 ∷ []);
          steps = (record { act = acts.Update 0 (tree.Name 84); line = 5 } ∷ []);
          line = 5;
        } ∷ []);
    invariants = [];
  };
  program = record {
    decls = (p.Word
        (record {
          name = 6;
          len = 1;
          init = 0;
          names = (5 ∷ []);
          clauses = (record {
            shape = record { field = (Some 0); key = None; value = (Some (tree.Name 84)) };
            guard = (Some (tree.Eq (tree.Name 32) (tree.Lit (pos 0))));
            line = 8;
          } ∷ record {
            shape =
                record { field = None; key = (Some (tree.Lit (pos 0))); value = (Some (tree.Name 84)) };
            guard =
                (Some (tree.Eq (tree.Name 32) (tree.Lit (pos 0))));
            line = 8;
          } ∷ []);
          fact = None;
          line = 8;
        }) ∷ p.Cell
        (record { name = 7; len = 1; init = 0; line = 9 }) ∷ []);
    start = Some (record {
      form = (record {
        op = 0;
        args = [];
        tokens = [];
        given = (8 ∷ []);
        label = None;
        scripts = [];
        line = 10;
      });
      steps = (record {
        what =
            p.Seal 6 0 (record {
              args = ((tree.Lit (pos 0)) ∷ []);
              tokens = (Some (record { name = 8; at = None }) ∷ Some (record { name = 7; at = (Some 0) }) ∷ []);
              scripts =
                  [];
            });
        line = 10;
      } ∷ record { what = p.Give 9 [] []; line = 10 } ∷ record {
        what = p.Give 10 [] [];
        line = 10;
      } ∷ []);
      line = 10;
    });
    threads = (record {
      name = 9;
      takes = (record { names = []; lines = []; facts = []; line = 11 });
      ends = (record { names = []; lines = []; facts = []; line = 11 });
      body =
          (c.Loop (record { names = []; lines = []; facts = []; line = 12 }) (record { args = []; scripts = [] }) 12
          (c.OnWhen (record {
            atomic = (record {
              op = (op.Cas (opd.Number 0) (opd.Number 1));
              local = (Some 11);
              word = 6;
              index = (record { operand = (opd.Number 0); scripts = [] });
              label = None;
            });
            test = (record {
              cond = record { left = (opd.Local 11); rel = rel.Eq; right = (opd.Number 0) };
              label = None;
            });
            first = (record {
              what = p.Open (5 ∷ []) [] None;
              line = 14;
            } ∷ record {
              what = p.Case (record { clause = 1; taken = (Some 8); scripts = [] });
              line =
                  14;
            } ∷ record {
              what = p.Case (record { clause = 2; taken = (Some 12); scripts = [] });
              line =
                  14;
            } ∷ record {
              what = p.Close (record {
                args = ((tree.Name 84) ∷ []);
                tokens = (None ∷ None ∷ []);
                scripts = [];
              });
              line = 14;
            } ∷ []);
            second = (record { what = p.Still []; line = 22 } ∷ []);
          }) 13
          (c.On (p.Read 13 7 (record { operand = (opd.Number 0); scripts = [] }) 12 []) 15
          (c.Do (p.Set 13 (calc.Plus (opd.Local 13) (opd.Number 1)) None) 16
          (c.Do (p.Proof (p.Exchange (record {
            op = 1;
            args = ((tree.Name 116) ∷ []);
            tokens = ((record { name = 8; at = None }) ∷ []);
            given = [];
            label = None;
            scripts = [];
            line = 17;
          }))) 17
          (c.On (p.Write 7 (record { operand = (opd.Number 0); scripts = [] }) (opd.Local 13) 12 []) 18
          (c.On (p.Operate (record {
            op = (op.Store (opd.Number 0));
            local = None;
            word = 6;
            index = (record { operand = (opd.Number 0); scripts = [] });
            label = None;
          })
          (record {
            what = p.Open (14 ∷ []) [] None;
            line = 19;
          } ∷ record {
            what = p.Case (record { clause = 1; taken = None; scripts = [] });
            line =
                19;
          } ∷ record { what = p.Case (record { clause = 2; taken = None; scripts = [] }); line = 19 } ∷ record {
            what =
                p.Close (record {
                  args = ((tree.Name 116) ∷ []);
                  tokens = (Some (record { name = 8; at = None }) ∷ Some (record { name = 12; at = None }) ∷ []);
                  scripts = [];
                });
            line = 19;
          } ∷ [])) 19 (c.Break (record { args = []; scripts = [] }) 20 (c.Brace 21)))))))
          (c.Next (record { args = []; scripts = [] }) 22 (c.Brace 22)) None (c.Brace 23))
          (Some (record { names = []; lines = []; facts = []; line = 23 }))
          (c.End (record { args = []; scripts = [] }) 24 (c.Brace 25)));
      line = 11;
    } ∷ record {
      name = 10;
      takes = (record { names = []; lines = []; facts = []; line = 26 });
      ends =
          (record { names = []; lines = []; facts = []; line = 26 });
      body =
          (c.Loop (record { names = []; lines = []; facts = []; line = 27 }) (record { args = []; scripts = [] }) 27
          (c.OnWhen (record {
            atomic = (record {
              op = (op.Cas (opd.Number 0) (opd.Number 1));
              local = (Some 11);
              word = 6;
              index = (record { operand = (opd.Number 0); scripts = [] });
              label = None;
            });
            test = (record {
              cond = record { left = (opd.Local 11); rel = rel.Eq; right = (opd.Number 0) };
              label = None;
            });
            first = (record {
              what = p.Open (5 ∷ []) [] None;
              line = 29;
            } ∷ record {
              what = p.Case (record { clause = 1; taken = (Some 8); scripts = [] });
              line =
                  29;
            } ∷ record {
              what = p.Case (record { clause = 2; taken = (Some 12); scripts = [] });
              line =
                  29;
            } ∷ record {
              what = p.Close (record {
                args = ((tree.Name 84) ∷ []);
                tokens = (None ∷ None ∷ []);
                scripts = [];
              });
              line = 29;
            } ∷ []);
            second = (record { what = p.Still []; line = 37 } ∷ []);
          }) 28
          (c.On (p.Read 13 7 (record { operand = (opd.Number 0); scripts = [] }) 12 []) 30
          (c.Do (p.Set 13 (calc.Plus (opd.Local 13) (opd.Number 1)) None) 31
          (c.Do (p.Proof (p.Exchange (record {
            op = 1;
            args = ((tree.Name 116) ∷ []);
            tokens = ((record { name = 8; at = None }) ∷ []);
            given = [];
            label = None;
            scripts = [];
            line = 32;
          }))) 32
          (c.On (p.Write 7 (record { operand = (opd.Number 0); scripts = [] }) (opd.Local 13) 12 []) 33
          (c.On (p.Operate (record {
            op = (op.Store (opd.Number 0));
            local = None;
            word = 6;
            index = (record { operand = (opd.Number 0); scripts = [] });
            label = None;
          })
          (record {
            what = p.Open (14 ∷ []) [] None;
            line = 34;
          } ∷ record {
            what = p.Case (record { clause = 1; taken = None; scripts = [] });
            line =
                34;
          } ∷ record { what = p.Case (record { clause = 2; taken = None; scripts = [] }); line = 34 } ∷ record {
            what =
                p.Close (record {
                  args = ((tree.Name 116) ∷ []);
                  tokens = (Some (record { name = 8; at = None }) ∷ Some (record { name = 12; at = None }) ∷ []);
                  scripts = [];
                });
            line = 34;
          } ∷ [])) 34 (c.Break (record { args = []; scripts = [] }) 35 (c.Brace 36)))))))
          (c.Next (record { args = []; scripts = [] }) 37 (c.Brace 37)) None (c.Brace 38))
          (Some (record { names = []; lines = []; facts = []; line = 38 }))
          (c.End (record { args = []; scripts = [] }) 39 (c.Brace 40)));
      line = 26;
    } ∷ []);
    last = None;
  };
}

taken : seen lock (0 ∷ 0 ∷ []) ≡ Some ((1 ∷ []), (0 ∷ []), [], (true ∷ true ∷ false ∷ []), ((pos 1) ∷ []))
unfolding code_list run unwind held_as stored_at argument token_name does form_fits number_fits map_fits names_only
    form_names_only has_local_terms are_safe guarded_key names form_names needs started_at updated_to act_slot
    presence amount_is_natural freshness enabling safety condition added removed left_by field_in changed_by sort_of
    truth
taken = refl

refused : seen lock (0 ∷ 0 ∷ 1 ∷ []) ≡ Some ((1 ∷ []), (0 ∷ []), [], (true ∷ true ∷ false ∷ []), ((pos 1) ∷ []))
unfolding code_list run unwind held_as stored_at argument token_name does form_fits number_fits map_fits names_only
    form_names_only has_local_terms are_safe guarded_key names form_names needs started_at updated_to act_slot
    presence amount_is_natural freshness enabling safety condition added removed left_by field_in changed_by sort_of
    truth
refused = refl

written : seen lock (0 ∷ 0 ∷ 0 ∷ 0 ∷ 0 ∷ []) ≡ Some
    ((0 ∷ []), (1 ∷ []), [], (false ∷ true ∷ false ∷ []), ((pos 1) ∷ []))
unfolding code_list run unwind held_as stored_at argument token_name does form_fits number_fits map_fits names_only
    form_names_only has_local_terms are_safe guarded_key names form_names needs started_at updated_to act_slot
    presence amount_is_natural freshness enabling safety condition added removed left_by field_in changed_by sort_of
    truth
written = refl

ended : seen lock (0 ∷ 0 ∷ 0 ∷ 0 ∷ 1 ∷ 1 ∷ 1 ∷ 1 ∷ []) ≡ Some
    ((0 ∷ []), (2 ∷ []), [], (false ∷ false ∷ false ∷ []), ((pos 2) ∷ []))
unfolding code_list run unwind held_as stored_at argument token_name does form_fits number_fits map_fits names_only
    form_names_only has_local_terms are_safe guarded_key names form_names needs started_at updated_to act_slot
    presence amount_is_natural freshness enabling safety condition added removed left_by field_in changed_by sort_of
    truth
ended = refl

erased_ended : seen_erased (code_of lock.program) (0 ∷ 0 ∷ 0 ∷ 0 ∷ 1 ∷ 1 ∷ 1 ∷ 1 ∷ []) ≡ Some
    ((0 ∷ []), (2 ∷ []), [], (false ∷ false ∷ false ∷ []))
unfolding code_list run unwind held_as stored_at argument token_name does form_fits number_fits map_fits names_only
    form_names_only has_local_terms are_safe guarded_key names form_names needs started_at updated_to act_slot
    presence amount_is_natural freshness enabling safety condition added removed left_by field_in changed_by sort_of
    truth
erased_ended = refl
