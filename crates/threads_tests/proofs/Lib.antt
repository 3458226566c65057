mod RelayLaws
