use Rattle.meter_concern.proofs.SeekLaws.{seeks_as, concerns-select, concerns_other, not_select_by_ci, not-select-by-address}
use Rattle.meter_concern.proofs.by_long.Goals.{else-ci-eq-CI_SELECT-via-then-ci-eq-CI_SELECT+else-address-eq-ADDR_SELECTED, else-ci-eq-CI_SELECT-via-else-ci-eq-CI_SELECT}
use Rattle.meter_concern.proofs.by_long.Goals as goal

pub returns-then-address-eq-ADDR_SELECTED : goal.returns-then-address-eq-ADDR_SELECTED
returns-then-address-eq-ADDR_SELECTED c = λ n. seeks_as (concerns-select n _ _ _ c.if-ci-eq-CI_SELECT.true c.if-address-eq-ADDR_SELECTED.true) c.by_id.ensures

pub returns-else-ci-eq-CI_SELECT : goal.returns-else-ci-eq-CI_SELECT
returns-else-ci-eq-CI_SELECT c =
    let a = c.args in
    λ n.
    elim c.else-ci-eq-CI_SELECT.branch [
      | else-ci-eq-CI_SELECT-via-then-ci-eq-CI_SELECT+else-address-eq-ADDR_SELECTED w ↦
          seeks_as (concerns_other n a.address a.ci _ (not-select-by-address a.ci a.address w.if-address-eq-ADDR_SELECTED.false)) c.by_address.ensures
      | else-ci-eq-CI_SELECT-via-else-ci-eq-CI_SELECT w ↦
          seeks_as (concerns_other n a.address a.ci _ (not_select_by_ci a.ci a.address w.if-ci-eq-CI_SELECT.false)) c.by_address.ensures
    ]
